mod Bodies
mod Steps
pub mod Siblings
