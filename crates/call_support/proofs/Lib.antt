pub mod Counts
pub mod Keeping
pub mod Few
pub mod Removals
pub mod Once
pub mod Finding
