pub mod Steps
pub mod Joined
pub mod Classes
pub mod OneReadingLines
pub mod OneReadingFiles
