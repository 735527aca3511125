pub mod SourceInRange
pub mod OneWay
pub mod OneOperand
pub mod OneFact
pub mod OneForm
pub mod OneRule
pub mod OneFile
