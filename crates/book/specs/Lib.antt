pub mod Kinds
pub mod Declare
pub mod Rules
