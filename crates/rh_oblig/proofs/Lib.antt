mod AddZero
pub mod Walks
pub mod Kept
pub mod Walked
pub mod Bridge
pub mod Leaves
pub mod Sound
pub mod Build
pub mod Each
pub mod Fits
pub mod Sizes
pub mod Room
