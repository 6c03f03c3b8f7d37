pub mod Calls
pub mod ForkSkinny
pub mod Keyed
pub mod Reach
pub mod Wanted
