pub mod FoundParts
pub mod StringParts
pub mod LineParts
pub mod LayoutParts
pub mod ListParts
