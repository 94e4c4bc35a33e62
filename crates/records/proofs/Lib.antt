pub mod Finds
pub mod Sized
pub mod Steps
pub mod Tallies
