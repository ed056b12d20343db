-- What the analysis of a file sees of its folder, and which files texts name.
use Rattle.std.specs.Prelude.{ℕ, suc, if◌then◌else◌, List, [], ◌∷◌, bytes_eq, encode_utf8_all, get_or, Option, Some, None, Result}
use Rattle.gd_syntax.specs.declared.fault.LoadFault.{LoadFault}
use Rattle.gd_syntax.specs.ResPath.{path_from}
use Rattle.res_paths.specs.Paths.{has_front, is_res_path, project_file}
use Rattle.folder_meaning.specs.declared.facts.Content.{Content}
use Rattle.folder_meaning.specs.declared.globals.Globals.{Globals}

-- the paths of the files, by number, the names that all files see, and what each file is read as, or its fault
pub record Folder : Type 0 where
  pub paths : List (List ℕ)
  pub globals : Globals
  pub look : ℕ → Result Content LoadFault

-- the number of a path among those from this number on
abbrev pub number_from : ℕ → List (List ℕ) → List ℕ → Option ℕ
number_from at [] path = None
number_from at (first ∷ paths) path = if bytes_eq first path then Some at else number_from (suc at) paths path

abbrev pub path_at : Folder → ℕ → List ℕ
path_at folder file = get_or folder.paths file []

-- the path that a text names from a file: one that begins with `res://` by itself, another from the file's folder
abbrev pub named_path : List ℕ → List ℕ → Option (List ℕ)
named_path file text = if has_front text then (if is_res_path text then Some text else None) else path_from file text

-- The settings of the project are no file that can be named.
abbrev pub number_of : List (List ℕ) → Option (List ℕ) → Option ℕ
number_of paths None = None
number_of paths (Some path) = if bytes_eq path project_file then None else number_from 0 paths path

-- the file that a text names from a file of the folder
abbrev pub file_named : Folder → ℕ → List ℕ → Option ℕ
file_named folder file text = number_of folder.paths (named_path (path_at folder file) (encode_utf8_all text))

-- the files whose global name this is, by path
abbrev pub files_of_name : List (List ℕ × ℕ) → List ℕ → List ℕ
files_of_name [] name = []
files_of_name (pair ∷ pairs) name = if bytes_eq pair.0 name then pair.1 ∷ files_of_name pairs name else files_of_name pairs name
