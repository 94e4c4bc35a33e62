pub mod Scopes
pub mod Waits
