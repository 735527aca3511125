pub mod Rank
pub mod Numbering
pub mod Union
