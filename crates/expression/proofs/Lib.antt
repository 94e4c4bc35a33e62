pub mod Scoped
pub mod Walks
