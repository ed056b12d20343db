pub mod EscapeParts
pub mod ValueParts
pub mod LineParts
pub mod Drafts
