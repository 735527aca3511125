pub mod Supports
pub mod Parts
pub mod OneRound
pub mod OneGreatest
pub mod NextSet
