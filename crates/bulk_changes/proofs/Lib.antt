pub mod Growing
pub mod Entries
pub mod Merging
pub mod Merged
