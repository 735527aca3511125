pub mod Deciding
pub mod Rulings
pub mod Answered
pub mod Gathered
pub mod Small
pub mod Fixed
