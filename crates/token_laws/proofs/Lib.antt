mod Longest
pub mod LongestSigns
mod FirstFaults
mod FaultPlaces
mod FaultLines
mod FirstOfFaults
mod HeaderParts
mod HeaderPieces
mod HeaderStrings
mod HeaderFounds
pub mod HeaderWalks
