pub mod Admission
pub mod Rules
