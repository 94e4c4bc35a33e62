pub mod Stack
pub mod Holding
