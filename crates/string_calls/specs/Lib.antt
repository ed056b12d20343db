pub mod Laws
pub mod Passes
pub mod Directives
pub mod Drafts
pub mod Plain
pub mod Writes
