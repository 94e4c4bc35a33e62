pub mod Kinds
pub mod Book
pub mod Held
pub mod Sizes
pub mod Found
pub mod Sound
