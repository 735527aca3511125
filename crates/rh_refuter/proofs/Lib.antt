pub mod Choosing
pub mod Adding
pub mod Searching
pub mod Weight
pub mod Fixed
