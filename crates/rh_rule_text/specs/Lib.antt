pub mod Resolve
pub mod Unknown
pub mod Reading
pub mod Answer
pub mod Proper
