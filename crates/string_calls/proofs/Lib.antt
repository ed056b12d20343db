pub mod FirstPlaces
pub mod Levels
pub mod Places
pub mod Cuts
pub mod Characters
pub mod Numerals
pub mod Parting
pub mod Known
pub mod Drafting
pub mod PatternPieces
pub mod Operator
mod Needles
