pub mod Output
pub mod FactLines
pub mod Faults
pub mod Status
pub mod RunLine
pub mod Counts
