pub mod Image
pub mod ImageFile
pub mod Limits
pub mod Reading
pub mod ReadingCalls
pub mod ReadingFaults
pub use Rattle.host_io.specs.Causes as FolderCauses
pub use Rattle.host_io.specs.Folder
pub use Rattle.host_io.specs.Paths
pub mod KnownFiles
pub mod KnownValue
pub mod Operators
pub mod Types
pub mod KnownClasses
pub mod GlobalNames
