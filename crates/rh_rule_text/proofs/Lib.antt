pub mod ProperNames
pub mod OneReading
pub mod Answered
pub mod NoMemory
