pub mod LayerRows
pub mod Covered
