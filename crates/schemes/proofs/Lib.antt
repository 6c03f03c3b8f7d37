mod First
pub mod Figures
pub mod Passed
pub mod Table
pub mod Tweaks
