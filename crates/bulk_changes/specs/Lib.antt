pub mod Containers
pub mod Merges
