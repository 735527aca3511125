pub mod Parts
pub mod Instance
pub mod Rows
pub mod Computed
pub mod Laws
