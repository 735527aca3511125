pub mod Numbered
pub mod Keys
pub mod Pieces
pub mod Joined
pub mod Bounds
pub mod FactNumbers
