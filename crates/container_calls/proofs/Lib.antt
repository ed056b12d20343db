pub mod Walking
pub mod Entries
pub mod Parts
pub mod Sorting
pub mod Plain
pub mod CodePoints
