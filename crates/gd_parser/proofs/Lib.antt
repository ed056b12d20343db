pub mod BlockParts
pub mod HeadSteps
pub mod Others
pub mod PatternParts
pub mod Sorts
