pub mod Exact
pub mod ExactCommands
