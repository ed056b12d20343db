pub mod Allowance
pub mod Cells
pub mod Knowing
