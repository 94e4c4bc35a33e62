pub mod Tells
pub mod Worlds
