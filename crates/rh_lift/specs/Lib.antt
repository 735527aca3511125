pub mod Standing
pub mod Local
pub mod Runs
