pub mod Sections
pub mod Job
