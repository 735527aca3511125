pub mod FromFiles
pub mod Candidates
pub mod Shaped
pub mod Numbered
pub mod Passing
pub mod Applying
