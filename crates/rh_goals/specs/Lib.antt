pub mod Statement
pub mod Hypotheses
pub mod Goals
pub mod Few
pub mod Valid
