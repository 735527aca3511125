pub mod Faults
pub mod Audit
pub mod Proofs
pub mod Walk
