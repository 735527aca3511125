pub mod Ranks
pub mod WordRanks
pub mod PlaceAfter
pub mod Spreading
pub mod Counted
pub mod Runs
pub mod Expanded
pub mod Uniting
