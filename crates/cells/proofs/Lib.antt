pub mod Below
pub mod Choice
pub mod Lanes
pub mod Laws
mod Rules
mod Steps
pub mod Tabs
pub mod Xor
