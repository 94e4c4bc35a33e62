pub mod Codes
pub mod Expressions
pub mod Lists
pub mod Checking
pub mod Commands
pub mod CommandChecking
