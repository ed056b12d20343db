-- What is known behind some lines, and with it what all lines say.
use Rattle.std.specs.Prelude.{ℕ, Bool, true, false, ◌||◌, if◌then◌else◌, List, [], ◌∷◌, ◌++◌, codes, bytes_eq, Option, Some, None, Err}
use Rattle.gd_syntax.specs.declared.fault.FaultKind.TheVariants.{SceneSyntax}
use Rattle.gd_syntax.specs.declared.fault.LoadFault.{LoadFault}
use Rattle.gd_syntax.specs.Layout.{at, text_start}
use Rattle.scene_syntax.specs.declared.project.AutoloadLine.{AutoloadLine}
use Rattle.scene_syntax.specs.Lines as line
use Rattle.scene_syntax.specs.Lines.{Line, Numbered}
use Rattle.scene_syntax.specs.Project.{Answer, is_version, has_version, or_first, first_fault, fault_of, line_start, settings_in, last_value, text_in, unless_fault}
use Rattle.text_scene.specs.declared.draft.Draft.{Draft}
use Rattle.text_scene.specs.declared.draft.Section.{Section}
use Rattle.text_scene.specs.declared.draft.Section.TheVariants.{Application, Autoload, Other}

abbrev pub start : Draft
start = record { has_version = false; fault = None; section = Other; main = None; autoloads = [] }

abbrev pub section_of : List ℕ → Section
section_of name = if bytes_eq name (codes "application") then Application else if bytes_eq name (codes "autoload") then Autoload else Other

abbrev pub is_application : Section → Bool
is_application Application = true
is_application Autoload = false
is_application Other = false

abbrev pub is_autoload : Section → Bool
is_autoload Application = false
is_autoload Autoload = true
is_autoload Other = false

abbrev pub main_with : Section → List ℕ → List ℕ → Option (List ℕ) → Option (List ℕ)
main_with Application key value main = if bytes_eq key (codes "run/main_scene") then Some value else main
main_with Autoload key value main = main
main_with Other key value main = main

abbrev pub autoloads_with : Section → ℕ → List ℕ → List ℕ → List AutoloadLine → List AutoloadLine
autoloads_with Application number key value all = all
autoloads_with Autoload number key value all = all ++ record { key = key; value = value; line = number } ∷ []
autoloads_with Other number key value all = all

abbrev pub with_setting : Draft → ℕ → List ℕ → List ℕ → Draft
with_setting draft number key value =
    record {
      has_version = draft.has_version || is_version (line.setting key value);
      fault = draft.fault;
      section = draft.section;
      main = main_with draft.section key value draft.main;
      autoloads = autoloads_with draft.section number key value draft.autoloads;
    }

-- what is known behind one line more
abbrev pub step : Option LoadFault → Draft → ℕ → Line → Draft
step bad draft number line.nothing = draft
step bad draft number (line.section name) = record draft { section = section_of name }
step bad draft number (line.setting key value) = with_setting draft number key value
step bad draft number line.broken = record draft { fault = or_first draft.fault (fault_of bad (line_start number) line.broken) }
step bad draft number line.unfinished = record draft { fault = or_first draft.fault (fault_of bad (line_start number) line.unfinished) }

-- what all lines say
pub record Whole : Type 0 where
  pub has_version : Bool
  pub fault : Option LoadFault
  pub main : Option (List ℕ)
  pub autoloads : List AutoloadLine

-- by what is known and the lines that are left
abbrev pub whole : Option LoadFault → Draft → List Numbered → Whole
whole bad draft more =
    record {
      has_version = draft.has_version || has_version more;
      fault = or_first draft.fault (first_fault bad more);
      main = last_value (codes "run/main_scene") draft.main (settings_in (codes "application") (is_application draft.section) more);
      autoloads = draft.autoloads ++ settings_in (codes "autoload") (is_autoload draft.section) more;
    }

abbrev pub answer_in : Whole → Answer
answer_in all = if all.has_version then unless_fault all.fault (record { main_scene = text_in all.main; autoloads = all.autoloads }) else Err (at SceneSyntax text_start)

-- the answer where no line is left
abbrev pub answer_of : Option LoadFault → Draft → Answer
answer_of bad draft =
    if draft.has_version then unless_fault (or_first draft.fault bad) (record { main_scene = text_in draft.main; autoloads = draft.autoloads }) else Err (at SceneSyntax text_start)
