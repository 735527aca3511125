pub mod TermList
pub mod Obligation
pub mod Laws
pub mod Ruling
