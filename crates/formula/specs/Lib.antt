pub mod InSinks
