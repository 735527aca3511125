pub mod Faults
pub mod Reading
pub mod Writing
pub mod Untold
pub mod MemoryShelf
pub mod MemorySink
