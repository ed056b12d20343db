pub mod Ladder
pub mod Parts
pub mod Fronts
