pub mod Numbered
pub mod Fitting
pub mod Checked
pub mod Programs
pub mod Made
