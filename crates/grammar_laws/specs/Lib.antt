pub mod PatternLevels
pub mod Limits
pub mod ClassNames
