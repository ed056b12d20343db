-- What a command finds in a folder: its reading. `script` alone wants one file so far, and finds others in the list before
-- anything is read.
use Rattle.std.specs.Prelude.{◌≡◌, ℕ, ◌&&◌, not, Bool, false, if◌then◌else◌, nat_lt, List, [], ◌∷◌, length, bytes_eq, IfSome, MatchOption, IsTrue}
use Rattle.std.specs.declared.option.Option.{Option}
use Rattle.std.specs.declared.option.Option.TheVariants.{None, Some}
use Rattle.std.specs.FinMap.{keys}
use Rattle.host_io.specs.declared.folder.Faults.{Faults}
use Rattle.host_io.specs.Causes.{Calls, is_failing}
use Rattle.host_io.specs.Folder.{Files}
use Rattle.folder_meaning.specs.Limits.{max_files}
use Rattle.folder_meaning.specs.Reading.{Reading, AllowsReading, reading_of, folder_fault, unfailed_reading}
use Rattle.folder_meaning.specs.ReadingCalls.{after_calls, calls_made}
use Rattle.folder_meaning.specs.ReadingFaults.{HasFaults}

pub data Found : Type 0 where
  read : Reading → Found
  other_files : Found

-- the list is this path alone
abbrev pub is_alone : List ℕ → List (List ℕ) → Bool
is_alone path [] = false
is_alone path (p ∷ []) = bytes_eq p path
is_alone path (p ∷ q ∷ paths) = false

-- One path is wanted, and the list is not that path alone. Where none is said to be wanted, all are.
abbrev pub has_others : Option (List ℕ) → List (List ℕ) → Bool
has_others None paths = false
has_others (Some path) paths = not (is_alone path paths)

-- a list of no more files than there may be has others
abbrev pub stops_at_list : Option (List ℕ) → Files → Bool
stops_at_list wanted files = not (nat_lt max_files (length (keys files))) && has_others wanted (keys files)

-- where calls are told by number
abbrev pub found_of : Option (List ℕ) → Files → Calls → Found
found_of wanted files calls = if stops_at_list wanted files && not (is_failing calls) then other_files else read (reading_of files calls)

-- where the files alone are told
abbrev pub AllowsFound : Option (List ℕ) → Files → Found → Type 0
AllowsFound wanted files (read reading) = AllowsReading files reading × (IsTrue (stops_at_list wanted files) → reading ≡ folder_fault)
AllowsFound wanted files other_files = IsTrue (stops_at_list wanted files)

-- where no call fails
abbrev pub unfailed_found : Option (List ℕ) → Files → Found
unfailed_found wanted files = if stops_at_list wanted files then other_files else read (unfailed_reading files)

-- what may be found, where the folder tells its files
abbrev pub IsFoundBy : Option (List ℕ) → Option Files → Option Calls → Found → Type 0
IsFoundBy wanted files calls found = IfSome files (λ files. MatchOption calls (AllowsFound wanted files found) (λ calls. found ≡ found_of wanted files calls))

-- the counts of faults that it needs
abbrev pub HasFoundFaults : Faults → Faults → Found → Type 0
HasFoundFaults before now (read reading) = HasFaults before now reading
HasFoundFaults before now other_files = now ≡ before

-- how many calls find it
abbrev pub calls_to_find : Option (List ℕ) → Files → Calls → ℕ
calls_to_find wanted files calls = if stops_at_list wanted files && not (is_failing calls) then 1 else calls_made files calls

-- these calls were made, where the folder tells its files and its calls
abbrev pub HasMadeCalls : Option (List ℕ) → Option Files → Option Calls → Option Calls → Type 0
HasMadeCalls wanted files before now = IfSome files (λ files. IfSome before (λ calls. now ≡ after_calls (calls_to_find wanted files calls) (Some calls)))

-- some number of calls was made, and those that fail are the same
pub record MadeCalls (before now : Option Calls) : Type 0 where
  pub count : ℕ
  pub is : now ≡ after_calls count before
