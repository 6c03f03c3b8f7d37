pub mod Modes
pub mod Skinny
pub mod Steps
pub mod Under
