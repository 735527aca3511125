mod Names
pub mod Firsts
pub mod Passed
pub mod ProcChecks
pub mod Operators
