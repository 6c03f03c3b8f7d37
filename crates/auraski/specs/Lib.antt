pub mod Entries
pub mod Rooms
