pub mod Candidates
pub mod Sparse
pub mod Laws
pub mod Parts
pub mod Lists
pub mod Flow
