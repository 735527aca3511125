pub mod Heads
pub mod Counting
pub mod Joining
pub mod Symmetry
pub mod Closing
pub mod Alone
pub mod Chaining
