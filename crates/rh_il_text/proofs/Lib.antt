pub mod Proper
pub mod OneReading
pub mod OneAnswer
