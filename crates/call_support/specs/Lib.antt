pub mod Retaining
pub mod Walks
