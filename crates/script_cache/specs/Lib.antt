pub mod ClaimErrors
pub mod Entries
pub mod Files
pub mod Statuses
pub mod Tasks
