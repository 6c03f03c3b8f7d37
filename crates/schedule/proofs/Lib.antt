mod Changed
pub mod Keys
mod Linear
pub mod Low
mod OddRows
pub mod Places
mod Share
pub mod Sixteen
pub mod Standing
pub mod Trails
