mod Answered
mod ByName
pub mod Counted
mod FromHeader
mod Going
mod Joined
mod Opened
mod Places
mod Sealed
mod Strides
mod Turned
mod Walked
mod Writing
