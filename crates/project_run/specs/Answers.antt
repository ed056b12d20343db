-- What the answers of the code tell.
use Rattle.std.specs.Prelude.{◌≡◌, ◌<◌, ◌≤◌, ℕ, length, List, String, Vec, ⊤}
use Rattle.std.specs.declared.alloc.Global.{Global}
use Rattle.std.specs.declared.option.Option.{Option}
use Rattle.std.specs.declared.option.Option.TheVariants.{None, Some}
use Rattle.std.specs.Option.{IsSomeAnd}
use Rattle.std.specs.List.Sorted.{IsStrictlySortedBy}
use Rattle.std.specs.FinMap.{keys}
use Rattle.std.specs.declared.result.Result.{Result}
use Rattle.std.specs.declared.result.Result.TheVariants.{Ok, Err}
use Rattle.host_io.specs.declared.folder.ReadError.{ReadError}
use Rattle.host_io.specs.declared.folder.ReadError.TheVariants.{IoFail, TooLong, NoMemory as read_memory}
use Rattle.host_io.specs.declared.folder.Faults.{Faults}
use Rattle.host_io.specs.Causes.{Calls, RoseBy}
use Rattle.host_io.specs.Folder.{Files, AreProjectPaths, texts}
use Rattle.host_io.specs.Paths.{path_order}
use Rattle.folder_meaning.specs.declared.image.ImageFile.{ImageFile}
use Rattle.folder_meaning.specs.Image.{Image}
use Rattle.folder_meaning.specs.ImageFile.{bytes_of, image_of}
use Rattle.folder_meaning.specs.Limits.{max_files}
use Rattle.folder_meaning.specs.Reading.{Reading, MayRead, reading_of_reads, event_of, image_read, folder_fault, folder_limit}
use Rattle.folder_meaning.specs.ReadingCalls.{after_calls, reads_made}
use Rattle.project_run.specs.declared.image.ImageError.{ImageError}
use Rattle.project_run.specs.declared.image.ImageError.TheVariants.{FolderFault, FolderLimit, NoMemory}
use Rattle.project_run.specs.declared.image.ScriptImageError.{ScriptImageError}
use Rattle.project_run.specs.declared.image.ScriptImageError.TheVariants.{FolderFault as script_fault, FolderLimit as script_limit, OtherFiles, NoMemory as script_memory}
use Rattle.project_run.specs.Found.{Found, read, other_files}

-- the reading that an answer tells, unless memory ran out
abbrev pub told_reading : Result (Vec ImageFile Global) ImageError → Option Reading
told_reading (Ok image) = Some (image_read (image_of image.items))
told_reading (Err FolderFault) = Some folder_fault
told_reading (Err FolderLimit) = Some folder_limit
told_reading (Err NoMemory) = None

-- what was found, where one script is wanted
abbrev pub told_found : Result (Vec ImageFile Global) ScriptImageError → Option Found
told_found (Ok image) = Some (read (image_read (image_of image.items)))
told_found (Err script_fault) = Some (read folder_fault)
told_found (Err script_limit) = Some (read folder_limit)
told_found (Err OtherFiles) = Some other_files
told_found (Err script_memory) = None

abbrev pub script_error : ImageError → ScriptImageError
script_error FolderFault = script_fault
script_error FolderLimit = script_limit
script_error NoMemory = script_memory

-- the paths of a list, in order
pub record AreListed (paths : List (List ℕ)) : Type 0 where
  pub ascending : IsStrictlySortedBy path_order paths
  pub form : AreProjectPaths paths
  pub few : length paths ≤ max_files

-- what the list of a folder tells of its files
abbrev pub ListsPaths : Files → Result (Vec (String Global) Global) ImageError → Type 0
ListsPaths files (Ok paths) = texts paths.items ≡ keys files
ListsPaths files (Err FolderLimit) = max_files < length (keys files)
ListsPaths files (Err FolderFault) = ⊤
ListsPaths files (Err NoMemory) = ⊤

-- the counts after the list
abbrev pub HasFaultsOfList : Faults → Faults → Result (Vec (String Global) Global) ImageError → Type 0
HasFaultsOfList before now (Ok paths) = now ≡ before
HasFaultsOfList before now (Err FolderFault) = RoseBy 1 before.deciding now.deciding
HasFaultsOfList before now (Err FolderLimit) = ⊤
HasFaultsOfList before now (Err NoMemory) = ⊤

-- reads of these paths decide so, after this many calls
pub record DecidesReading (files : Files) (before now : Option Calls) (paths : List (List ℕ)) (reading : Reading) : Type 0 where
  pub reads : Image
  pub may : MayRead files before paths reads
  pub is : reading ≡ reading_of_reads reads
  pub made : now ≡ after_calls (reads_made 0 reads) before

-- what the read of one file tells, where it gave this
abbrev pub IsStep : ℕ → List ℕ → Option (List ℕ) → Result (Option (Vec ℕ Global)) ImageError → Type 0
IsStep total path outcome (Ok content) = (bytes_of content ≡ outcome) × (event_of total path outcome ≡ None)
IsStep total path outcome (Err FolderFault) = event_of total path outcome ≡ Some folder_fault
IsStep total path outcome (Err FolderLimit) = event_of total path outcome ≡ Some folder_limit
IsStep total path outcome (Err NoMemory) = Unit {0}

-- what an answer of `read` says of what was given
abbrev pub IsReadAnswer : ℕ → Option (List ℕ) → Result (Vec ℕ Global) ReadError → Type 0
IsReadAnswer limit outcome (Ok bytes) = outcome ≡ Some bytes.items
IsReadAnswer limit outcome (Err TooLong) = IsSomeAnd outcome (λ bytes. limit < length bytes)
IsReadAnswer limit outcome (Err IoFail) = outcome ≡ None
IsReadAnswer limit outcome (Err read_memory) = Unit {0}

-- the counts after the read of one file
abbrev pub HasFaultsOfOne : Faults → Faults → Result (Option (Vec ℕ Global)) ImageError → Type 0
HasFaultsOfOne before now (Ok (Some bytes)) = now ≡ before
HasFaultsOfOne before now (Ok None) = RoseBy 1 before.other now.other × (now.deciding ≡ before.deciding)
HasFaultsOfOne before now (Err FolderFault) = RoseBy 1 before.deciding now.deciding
HasFaultsOfOne before now (Err FolderLimit) = Unit {0}
HasFaultsOfOne before now (Err NoMemory) = Unit {0}
