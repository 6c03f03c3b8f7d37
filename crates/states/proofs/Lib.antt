pub mod Laws
pub mod Orders
pub mod Skinny
pub mod Starts
pub mod Tweaks
