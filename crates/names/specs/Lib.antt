pub mod NameGroups
pub mod Names
