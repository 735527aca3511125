pub mod DerivedRules
pub mod DerivedFacts
pub mod DerivedLists
pub mod DerivedParts
pub mod Steps
pub mod Lists
pub mod Joined
