pub mod BitRows
pub mod Known
pub mod Site
pub mod Support
pub mod Laws
