pub mod RuleTrees
pub mod Sizes
pub mod TreeSizes
