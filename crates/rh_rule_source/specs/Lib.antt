pub mod Words
pub mod Grammar
pub mod Source
pub mod Spelling
