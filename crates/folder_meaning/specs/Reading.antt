-- The reading of a folder: its image, or the first event that decides before there is one.
use Rattle.std.specs.Prelude.{◌≡◌, ℕ, ◌+◌, ◌⊎◌, ◌||◌, if◌then◌else◌, nat_lt, List, [], ◌∷◌, length, map, bytes_eq, unwrap_or, IfSome, MatchOption}
use Rattle.std.specs.declared.option.Option.{Option}
use Rattle.std.specs.declared.option.Option.TheVariants.{None, Some}
use Rattle.std.specs.Option.{option_or}
use Rattle.std.specs.FinMap.{get, keys}
use Rattle.res_paths.specs.Paths.{project_file}
use Rattle.host_io.specs.Causes.{Calls, is_failing, after_call, after_told_call}
use Rattle.host_io.specs.Folder.{Files}
use Rattle.folder_meaning.specs.Image.{Image, size_of}
use Rattle.folder_meaning.specs.Limits.{max_files, max_file_bytes, max_folder_bytes}

pub data Reading : Type 0 where
  image_read : Image → Reading
  -- the list failed, or the read of the project file
  folder_fault : Reading
  -- a limit was passed
  folder_limit : Reading

-- what the read of one file decides, after so many bytes
abbrev pub event_of : ℕ → List ℕ → Option (List ℕ) → Option Reading
event_of total path None = if bytes_eq path project_file then Some folder_fault else None
event_of total path (Some bytes) = if nat_lt max_file_bytes (length bytes) || nat_lt max_folder_bytes (total + length bytes) then Some folder_limit else None

-- the first event among these reads
abbrev pub first_event : ℕ → Image → Option Reading
first_event total [] = None
first_event total (file ∷ files) = option_or (event_of total file.0 file.1) (first_event (total + size_of file.1) files)

abbrev pub reading_of_reads : Image → Reading
reading_of_reads reads = unwrap_or (first_event 0 reads) (image_read reads)

-- what a list and then these reads decide
abbrev pub reading_of_list : List (List ℕ) → Image → Reading
reading_of_list paths reads = if nat_lt max_files (length paths) then folder_limit else reading_of_reads reads

-- ---- where the files are told, and the calls by number

-- what the reads of these paths give
abbrev pub reads_of : Files → Calls → List (List ℕ) → Image
reads_of files calls [] = []
reads_of files calls (path ∷ paths) = (path, if is_failing calls then None else get files path) ∷ reads_of files (after_call calls) paths

abbrev pub reading_of : Files → Calls → Reading
reading_of files calls = if is_failing calls then folder_fault else reading_of_list (keys files) (reads_of files (after_call calls) (keys files))

-- ---- where the files alone are told

-- a read fails, or gives the file's bytes
abbrev pub MayGive : Files → Option Calls → List ℕ → Option (List ℕ) → Type 0
MayGive files None path outcome = (outcome ≡ None) ⊎ (outcome ≡ get files path)
MayGive files (Some calls) path outcome = outcome ≡ (if is_failing calls then None else get files path)

-- what reads of these paths, one after the other, may give
abbrev pub MayRead : Files → Option Calls → List (List ℕ) → Image → Type 0
MayRead files calls [] [] = Unit {0}
MayRead files calls [] (file ∷ reads) = ⊥
MayRead files calls (path ∷ paths) [] = ⊥
MayRead files calls (path ∷ paths) (file ∷ reads) = (file.0 ≡ path) × MayGive files calls path file.1 × MayRead files (after_told_call calls) paths reads

-- a reading that these files allow
abbrev pub AllowsReading : Files → Reading → Type 0
AllowsReading files reading = (reading ≡ folder_fault)
    ⊎ ((reads : Image) × MayRead files None (keys files) reads × (reading ≡ reading_of_list (keys files) reads))

-- every file has its bytes
abbrev pub unfailed_reads : Files → List (List ℕ) → Image
unfailed_reads files paths = map (λ path. (path, get files path)) paths

-- the reading in which no call fails
abbrev pub unfailed_reading : Files → Reading
unfailed_reading files = reading_of_list (keys files) (unfailed_reads files (keys files))

-- ---- a reading that the folder allows, where it tells its files

abbrev pub IsReadingOf : Option Files → Option Calls → Reading → Type 0
IsReadingOf files calls reading = IfSome files (λ files. MatchOption calls (AllowsReading files reading) (λ calls. reading ≡ reading_of files calls))
