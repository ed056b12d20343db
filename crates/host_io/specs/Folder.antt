-- What the calls of a folder answer.
use Rattle.std.specs.Prelude.{◌≡◌, ℕ, ◌<◌, ◌≤◌, Bool, false, ◌||◌, List, length, map, Result, Vec, String, IsTrue, All, ⊤, MatchBool, is_none, string_bytes, bytes_eq}
use Rattle.std.specs.declared.option.Option.{Option}
use Rattle.std.specs.declared.option.Option.TheVariants.{None, Some}
use Rattle.std.specs.declared.result.Result.TheVariants.{Ok, Err}
use Rattle.std.specs.declared.alloc.Global.{Global}
use Rattle.std.specs.Option.{IsSomeAnd}
use Rattle.std.specs.List.{IsDistinct}
use Rattle.std.specs.List.Sorted.{IsPermutation}
use Rattle.std.specs.FinMap.{FinMap, get, keys, len}
use Rattle.host_io.specs.declared.folder.ListError.{ListError}
use Rattle.host_io.specs.declared.folder.ListError.TheVariants.{IoFail as list_fail, TooMany, NoMemory as list_memory}
use Rattle.host_io.specs.declared.folder.ReadError.{ReadError}
use Rattle.host_io.specs.declared.folder.ReadError.TheVariants.{IoFail as read_fail, TooLong, NoMemory as read_memory}
use Rattle.host_io.specs.declared.folder.Faults.{Faults}
use Rattle.host_io.specs.Causes.{HasCause, Calls, is_failing}
use Rattle.host_io.specs.Paths.{path_order, same_path}
use Rattle.res_paths.specs.Paths.{project_file, is_project_path}

-- the bytes of each file, by its path
abbrev pub Files : Type 0
Files = FinMap path_order (List ℕ)

abbrev pub texts : List (String Global) → List (List ℕ)
texts paths = map string_bytes paths

-- each path is that of a file of a project
abbrev pub AreProjectPaths : List (List ℕ) → Type 0
AreProjectPaths paths = All (λ p. IsTrue (is_project_path p)) paths

abbrev pub HasProjectPaths : Files → Type 0
HasProjectPaths files = AreProjectPaths (keys files)

-- at most so many paths, each that of a file of a project, and each once
pub record IsListing (limit : ℕ) (paths : List (List ℕ)) : Type 0 where
  pub within : length paths ≤ limit
  pub form : AreProjectPaths paths
  pub once : IsDistinct same_path paths

-- what an answer of `list` says of the files
abbrev pub ListsFiles : Files → ℕ → Result (Vec (String Global) Global) ListError → Type 0
ListsFiles files limit (Ok paths) = IsPermutation (keys files) (texts paths.items)
ListsFiles files limit (Err TooMany) = limit < len files
ListsFiles files limit (Err list_fail) = ⊤
ListsFiles files limit (Err list_memory) = ⊤

-- what an answer of `read` says of the files
abbrev pub ReadsFile : Files → List ℕ → ℕ → Result (Vec ℕ Global) ReadError → Type 0
ReadsFile files path limit (Ok bytes) = get files path ≡ Some bytes.items
ReadsFile files path limit (Err TooLong) = IsSomeAnd (get files path) (λ bytes. limit < length bytes)
ReadsFile files path limit (Err read_fail) = ⊤
ReadsFile files path limit (Err read_memory) = ⊤

-- no call has failed
abbrev pub no_faults : Faults
no_faults = record { deciding = 0; other = 0 }

-- a folder that tells its files lacks this one
abbrev pub is_lacking : Option Files → List ℕ → Bool
is_lacking None path = false
is_lacking (Some files) path = is_none (get files path)

-- the next call fails, where it is a read of this path
abbrev pub is_failing_read : Option Files → List ℕ → Calls → Bool
is_failing_read files path calls = is_failing calls || is_lacking files path

-- a call of `list`, by the counts
pub record HasListCause (before now : Faults) (result : Result (Vec (String Global) Global) ListError) : Type 0 where
  pub deciding : HasCause list_fail before.deciding now.deciding result
  pub other : now.other ≡ before.other

-- a read, by the counts: the one of its path has the cause, and the other stays
abbrev pub HasReadCause : List ℕ → Faults → Faults → Result (Vec ℕ Global) ReadError → Type 0
HasReadCause path before now result = MatchBool (bytes_eq path project_file)
    (HasCause read_fail before.deciding now.deciding result × (now.other ≡ before.other))
    (HasCause read_fail before.other now.other result × (now.deciding ≡ before.deciding))
