pub mod Levels
pub mod Growth
pub mod Weights
pub mod Copying
pub mod Apart
