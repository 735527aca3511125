pub mod Carry
pub mod Known
