-- What a folder in memory holds.
use Rattle.std.specs.Prelude.{ℕ, List, map, Vec, String, string_bytes}
use Rattle.std.specs.declared.alloc.Global.{Global}
use Rattle.std.specs.List.{IsDistinct}
use Rattle.std.specs.FinMap.{from_entries}
use Rattle.host_io.specs.Folder.{Files, AreProjectPaths}
use Rattle.host_io.specs.Paths.{same_path}

-- each path with its bytes, in the order in which they were handed in
abbrev pub entries_of : List (String Global × Vec ℕ Global) → List (List ℕ × List ℕ)
entries_of files = map (λ f. (string_bytes f.0, f.1.items)) files

abbrev pub paths_of : List (String Global × Vec ℕ Global) → List (List ℕ)
paths_of files = map (λ f. string_bytes f.0) files

abbrev pub files_of : List (String Global × Vec ℕ Global) → Files
files_of files = from_entries (entries_of files)

-- the names are distinct paths of files of a project
pub record AreProjectFiles (files : List (String Global × Vec ℕ Global)) : Type 0 where
  pub form : AreProjectPaths (paths_of files)
  pub once : IsDistinct same_path (paths_of files)
