pub mod Readings
pub mod Unfailed
mod Adding
pub mod Crossing
