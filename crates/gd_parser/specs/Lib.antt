pub mod Annotations
pub mod BlockForms
pub mod Files
pub mod FoundPatterns
pub mod Members
pub mod Parameters
pub mod PatternForms
