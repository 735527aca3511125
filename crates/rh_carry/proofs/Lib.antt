pub mod Carrying
pub mod Split
pub mod BitsBefore
