pub mod Apt
pub mod Keeping
