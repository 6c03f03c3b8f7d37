pub mod Changed
pub mod Parts
