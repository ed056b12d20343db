pub mod Answers
pub mod Found
pub use Rattle.host_io.specs.Causes as FolderCauses
pub use Rattle.host_io.specs.Folder
pub use Rattle.host_io.specs.Paths
pub use Rattle.folder_meaning.specs.Image as FolderImage
pub use Rattle.folder_meaning.specs.ImageFile as FolderImageFile
pub use Rattle.folder_meaning.specs.Limits as FolderLimits
pub use Rattle.folder_meaning.specs.Reading as FolderReading
pub use Rattle.folder_meaning.specs.ReadingCalls as FolderReadingCalls
pub use Rattle.folder_meaning.specs.ReadingFaults as FolderReadingFaults
