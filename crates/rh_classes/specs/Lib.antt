pub mod Merge
pub mod Chain
