pub mod Forms
pub mod Nests
pub mod After
