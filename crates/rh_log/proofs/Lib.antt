pub mod Growing
pub mod Trees
pub mod Refuting
pub mod Checking
