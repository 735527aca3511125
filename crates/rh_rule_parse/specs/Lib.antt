pub mod Cursor
pub mod Lists
