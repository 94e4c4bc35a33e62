pub mod Held
pub mod Steps
pub mod Growing
pub mod Lawful
