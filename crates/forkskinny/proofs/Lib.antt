pub mod Conditions
pub mod Forkcipher
mod Numbers
mod Parts
mod Places
pub mod Told
mod Ways
