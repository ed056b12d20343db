pub mod Table
pub mod Globals
pub mod Natives
