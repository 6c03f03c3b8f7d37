pub mod Collected
pub mod Made
pub mod Over
pub mod Parts
pub mod Wrote
mod Loaded
