pub mod Held
pub mod Frames
pub mod Standing
pub mod Kept
pub mod Naming
pub mod Left
pub mod Started
pub mod Ends
