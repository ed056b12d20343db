pub mod CursorParts
pub mod Parts
