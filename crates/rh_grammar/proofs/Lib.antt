pub mod Derivations
pub mod Heads
pub mod Steps
pub mod Stacks
pub mod Passing
pub mod Faults
