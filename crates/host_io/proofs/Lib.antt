pub mod Held
pub mod InOrder
pub mod Listed
pub mod Once
pub mod Pieces
pub mod Written
