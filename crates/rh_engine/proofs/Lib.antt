pub mod Fewer
pub mod ShareTurns
pub mod Hinting
pub mod Crews
