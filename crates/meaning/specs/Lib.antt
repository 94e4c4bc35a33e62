pub mod Lists
pub mod Routine
pub mod Runs
pub mod Telling
pub mod Bound
pub mod Promise
pub mod Examples
