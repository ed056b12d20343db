pub mod Causes
pub mod Folder
pub mod Memory
pub mod MemoryFolder
pub mod MemorySink
pub mod Paths
pub mod Pieces
pub mod Sink
pub use Rattle.res_paths.specs.Paths as ResPaths
