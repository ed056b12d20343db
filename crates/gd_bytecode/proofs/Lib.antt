pub mod Places
pub mod Frugal
pub mod FrugalCalls
pub mod Goings
pub mod EachWell
pub mod OtherRegisters
pub mod OtherRuns
pub mod CodeRows
