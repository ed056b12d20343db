pub mod Line
pub mod Ending
pub mod Pieces
pub mod Program
