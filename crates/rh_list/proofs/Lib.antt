pub mod Appended
pub mod AtPlace
