mod AsciiNames
pub mod IndexSteps
