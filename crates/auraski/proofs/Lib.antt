pub mod Rooms
pub mod Same
