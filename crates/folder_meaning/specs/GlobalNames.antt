-- The names that all files of a folder see: those that scripts register in their headers (Godot manual, "GDScript reference",
-- "Registering named classes").
use Rattle.std.specs.Prelude.{ℕ, suc, if◌then◌else◌, List, [], ◌∷◌, ◌++◌, bytes_eq, option_map}
use Rattle.std.specs.declared.option.Option.{Option}
use Rattle.std.specs.declared.option.Option.TheVariants.{None, Some}
use Rattle.gd_syntax.specs.Header.{global_of}
use Rattle.res_paths.specs.Paths.{is_script_name}
use Rattle.folder_meaning.specs.declared.globals.Globals.{Globals}
use Rattle.folder_meaning.specs.Image.{Image}

-- the global name of a script, where its bytes were read and have one
abbrev pub name_of_content : Option (List ℕ) → Option (List ℕ)
name_of_content None = None
name_of_content (Some bytes) = option_map (λ global. global.name) (global_of bytes)

abbrev pub name_of_file : List ℕ → Option (List ℕ) → Option (List ℕ)
name_of_file path content = if is_script_name path then name_of_content content else None

abbrev pub numbered : ℕ → Option (List ℕ) → List (List ℕ × ℕ)
numbered file None = []
numbered file (Some name) = (name, file) ∷ []

-- the names of the files from this number on, with their numbers
abbrev pub class_names : ℕ → Image → List (List ℕ × ℕ)
class_names file [] = []
class_names file (first ∷ others) = numbered file (name_of_file first.0 first.1) ++ class_names (suc file) others

-- No file is an autoload yet.
abbrev pub globals_of : Image → Globals
globals_of image = record { classes = class_names 0 image; autoloads = [] }

-- The file that a name means: the first of those that have it.
abbrev pub file_of_name : List (List ℕ × ℕ) → List ℕ → Option ℕ
file_of_name [] name = None
file_of_name (pair ∷ pairs) name = if bytes_eq pair.0 name then Some pair.1 else file_of_name pairs name
