pub mod Checks
pub mod Figures
pub mod Schemes
