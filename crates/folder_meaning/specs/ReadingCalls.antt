-- How many calls a reading makes.
use Rattle.std.specs.Prelude.{ℕ, zero, suc, ◌+◌, ◌||◌, if◌then◌else◌, nat_lt, is_some, [], ◌∷◌, length}
use Rattle.std.specs.declared.option.Option.{Option}
use Rattle.std.specs.FinMap.{keys}
use Rattle.host_io.specs.Causes.{Calls, is_failing, after_call, after_told_call}
use Rattle.host_io.specs.Folder.{Files}
use Rattle.folder_meaning.specs.Image.{Image, size_of}
use Rattle.folder_meaning.specs.Limits.{max_files}
use Rattle.folder_meaning.specs.Reading.{event_of, reads_of}

-- so many calls later
abbrev pub after_calls : ℕ → Option Calls → Option Calls
after_calls zero calls = calls
after_calls (suc n) calls = after_told_call (after_calls n calls)

-- the reads up to the first that decides, after so many bytes
abbrev pub reads_made : ℕ → Image → ℕ
reads_made total [] = 0
reads_made total (file ∷ files) = suc (if is_some (event_of total file.0 file.1) then 0 else reads_made (total + size_of file.1) files)

-- the list, and then the reads, where the list decides nothing
abbrev pub calls_made : Files → Calls → ℕ
calls_made files calls = if is_failing calls || nat_lt max_files (length (keys files)) then 1 else suc (reads_made 0 (reads_of files (after_call calls) (keys files)))
