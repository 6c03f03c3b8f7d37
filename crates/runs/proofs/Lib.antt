pub mod Loops
pub mod Seen
pub mod Undo
