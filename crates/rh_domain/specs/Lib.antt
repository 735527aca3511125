pub mod Constants
pub mod Binding
pub mod Facts
pub mod Count
pub mod First
