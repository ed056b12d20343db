-- What the file of a project's settings, `project.godot`, says of its start, or its first fault.
use Rattle.std.specs.Prelude.{◌≡◌, ℕ, Bool, false, ◌&&◌, ◌||◌, if◌then◌else◌, List, [], ◌∷◌, codes, bytes_eq, is_some, Option, Some, None, Result, Ok, Err}
use Rattle.gd_syntax.specs.declared.fault.FaultKind.TheVariants.{SceneSyntax}
use Rattle.gd_syntax.specs.declared.fault.LoadFault.{LoadFault}
use Rattle.gd_syntax.specs.declared.fault.Place.{Place}
use Rattle.gd_syntax.specs.declared.fault.SolveError.{SolveError}
use Rattle.gd_syntax.specs.declared.fault.SolveError.TheVariants.{Fault, NoMemory}
use Rattle.gd_syntax.specs.Layout.{at, bad_byte, text_of, text_start}
use Rattle.scene_syntax.specs.declared.project.AutoloadLine.{AutoloadLine}
use Rattle.scene_syntax.specs.declared.project.ProjectFile.{ProjectFile}
use Rattle.scene_syntax.specs.Lines.{Line, nothing, section, setting, broken, unfinished, Numbered, lines}
use Rattle.scene_syntax.specs.Values.{string_value}

-- the setting that makes a file one of this version of Godot, in any section
abbrev pub is_version : Line → Bool
is_version (setting key value) = bytes_eq key (codes "config_version") && bytes_eq value (codes "5")
is_version _ = false

abbrev pub has_version : List Numbered → Bool
has_version [] = false
has_version (found ∷ more) = is_version found.line || has_version more

-- what is wrong with a line on which the text ends: a byte that is no UTF-8, if there is one
abbrev pub end_fault : Place → Option LoadFault → LoadFault
end_fault place None = at SceneSyntax place
end_fault place (Some fault) = fault

-- the fault of a line, behind which there may be such a byte
abbrev pub fault_of : Option LoadFault → Place → Line → Option LoadFault
fault_of bad place broken = Some (at SceneSyntax place)
fault_of bad place unfinished = Some (end_fault place bad)
fault_of bad place _ = None

abbrev pub line_start : ℕ → Place
line_start number = record { line = number; column = 1 }

abbrev pub or_first : Option LoadFault → Option LoadFault → Option LoadFault
or_first None other = other
or_first (Some fault) other = Some fault

abbrev pub first_fault : Option LoadFault → List Numbered → Option LoadFault
first_fault bad [] = bad
first_fault bad (found ∷ more) = or_first (fault_of bad (line_start found.number) found.line) (first_fault bad more)

-- the settings of one section, as autoload lines have them
abbrev pub setting_onto : Bool → ℕ → List ℕ → List ℕ → List AutoloadLine → List AutoloadLine
setting_onto is_here number key value more = if is_here then record { key = key; value = value; line = number } ∷ more else more

-- The settings in the section of this name; `is_here` says whether the lines stand in it.
abbrev pub settings_in : List ℕ → Bool → List Numbered → List AutoloadLine
settings_in name is_here [] = []
settings_in name is_here (found ∷ more) =
    elim found.line as (λ _. List AutoloadLine) [
      | section other ↦ settings_in name (bytes_eq other name) more
      | setting key value ↦ setting_onto is_here found.number key value (settings_in name is_here more)
      | nothing ↦ settings_in name is_here more
      | broken ↦ settings_in name is_here more
      | unfinished ↦ settings_in name is_here more
    ]

-- the last value of this key
abbrev pub last_value : List ℕ → Option (List ℕ) → List AutoloadLine → Option (List ℕ)
last_value key found [] = found
last_value key found (line ∷ more) = last_value key (if bytes_eq line.key key then Some line.value else found) more

abbrev pub text_in : Option (List ℕ) → Option (List ℕ)
text_in None = None
text_in (Some value) = string_value value

abbrev pub main_scene : List Numbered → Option (List ℕ)
main_scene all = text_in (last_value (codes "run/main_scene") None (settings_in (codes "application") false all))

abbrev pub content : List Numbered → ProjectFile
content all = record { main_scene = main_scene all; autoloads = settings_in (codes "autoload") false all }

abbrev pub Answer : Type 0
Answer = Result ProjectFile LoadFault

abbrev pub unless_fault : Option LoadFault → ProjectFile → Answer
unless_fault None project = Ok project
unless_fault (Some fault) project = Err fault

-- A file without the version is faulty at its start, whatever else is wrong with it.
abbrev pub project_in : Option LoadFault → List Numbered → Answer
project_in bad all = if has_version all then unless_fault (first_fault bad all) (content all) else Err (at SceneSyntax text_start)

-- the content of the settings in these bytes, or their first fault
unfoldable pub project_of : List ℕ → Answer
project_of bytes = project_in (bad_byte bytes) (lines (is_some (bad_byte bytes)) 0 1 (text_of bytes))

-- what `project_file` answers: the content or the fault, unless memory runs out
abbrev pub IsProjectAnswer : Result ProjectFile SolveError → Answer → Type 0
IsProjectAnswer (Ok project) answer = answer ≡ Ok project
IsProjectAnswer (Err (Fault fault)) answer = answer ≡ Err fault
IsProjectAnswer (Err NoMemory) answer = Unit {0}
