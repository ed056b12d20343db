pub mod Scans
pub mod StringParts
pub mod Pieces
pub mod Lists
pub mod Ended
pub mod Files
