pub mod Refusing
pub mod Written
pub mod Results
pub mod OneOutput
pub mod Asked
pub mod Faulty
pub mod Completeness
