pub mod Tables
pub mod Derivation
pub mod Deterministic
pub mod Stack
pub mod Parsing
pub mod Test
pub mod Cursor
