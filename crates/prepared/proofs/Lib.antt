pub mod Admitted
pub mod Found
pub mod Loops
mod Repeats
