pub mod Bits
pub mod Entering
pub mod Layout
