pub mod Lines
pub mod Tree
pub mod Text
pub mod Faults
pub mod Reading
pub mod Levels
pub mod Reader
pub mod Same
