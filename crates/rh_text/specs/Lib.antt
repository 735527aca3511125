pub mod Signs
pub mod Pieces
pub mod Fronts
pub mod Decimal
pub mod Tokens
pub mod Words
