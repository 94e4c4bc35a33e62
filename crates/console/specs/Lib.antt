pub mod Phases
pub mod Trace
