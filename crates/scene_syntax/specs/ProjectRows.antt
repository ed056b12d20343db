-- Worked rows of settings: the bytes of a file, and what they say of the project's start.
use Rattle.std.specs.Prelude.{◌≡◌, ℕ, List, [], ◌∷◌, ◌++◌, codes, Option, Some, None, Ok, Err}
use Rattle.gd_syntax.specs.declared.fault.FaultKind.{FaultKind}
use Rattle.gd_syntax.specs.declared.fault.FaultKind.TheVariants.{BadBytes, SceneSyntax}
use Rattle.scene_syntax.specs.declared.project.AutoloadLine.{AutoloadLine}
use Rattle.scene_syntax.specs.Project.{Answer, project_of}

abbrev pub starts : Option (List ℕ) → List AutoloadLine → Answer
starts main autoloads = Ok (record { main_scene = main; autoloads = autoloads })

abbrev pub fails : FaultKind → ℕ → ℕ → Answer
fails kind line column = Err (record { kind = kind; place = record { line = line; column = column } })

abbrev pub autoload : List ℕ → List ℕ → ℕ → AutoloadLine
autoload key value line = record { key = key; value = value; line = line }

pub record ProjectRows : Type 0 where
  -- a file as the editor writes it
  pub written :
      project_of (codes "; Engine configuration file.\nconfig_version=5\n\n[application]\n\nconfig/name=\"Demo\"\nrun/main_scene=\"uid://c4main\"\nconfig/features=PackedStringArray(\"4.3\", \"Forward Plus\")\n")
      ≡ starts (Some (codes "uid://c4main")) []
  pub empty : project_of [] ≡ fails SceneSyntax 1 1
  -- another version, also before and behind other faults
  pub other_version : project_of (codes "config_version=4\n") ≡ fails SceneSyntax 1 1
  pub quoted_version : project_of (codes "config_version=\"5\"\n") ≡ fails SceneSyntax 1 1
  pub no_version_first : project_of (codes "[a]\nx\n") ≡ fails SceneSyntax 1 1
  pub version_behind : project_of (codes "x\nconfig_version=5\n") ≡ fails SceneSyntax 1 1
  pub version_in_section : project_of (codes "[a]\nconfig_version=5") ≡ starts None []
  -- the last main scene of the section counts, and a value that is no string is none
  pub last_scene : project_of (codes "config_version=5\n[application]\nrun/main_scene=\"a\"\n[other]\nrun/main_scene=\"b\"\n[application]\nrun/main_scene=\"c\"\n") ≡ starts (Some (codes "c")) []
  pub no_string : project_of (codes "config_version=5\n[application]\nrun/main_scene=\"a\"\nrun/main_scene=7\n") ≡ starts None []
  pub wrong_escape : project_of (codes "config_version=5\n[application]\nrun/main_scene=\"a\\q\"\n") ≡ starts None []
  pub escapes : project_of (codes "config_version=5\n[application]\nrun/main_scene=\"a;\\\"\\u0062\\\nc\"\n") ≡ starts (Some (codes "a;\"bc")) []
  pub other_section : project_of (codes "run/main_scene=\"a\"\nconfig_version=5\n") ≡ starts None []
  -- a value goes on over line ends in strings and brackets
  pub autoloads : project_of (codes "config_version=5\n[autoload]\nA=\"*res://a.gd\"\r\nB=[1,\n\"]\n\"]\n;C=1\nD=\n") ≡ starts None (autoload (codes "A") (codes "\"*res://a.gd\"") 3 ∷ autoload (codes "B") (codes "[1,\n\"]\n\"]") 4 ∷ autoload (codes "D") [] 8 ∷ [])
  pub closes_nothing : project_of (codes "config_version=5\na=)]\n[autoload]\nb=1\n") ≡ starts None (autoload (codes "b") (codes "1") 4 ∷ [])
  -- what is open at the end, at its line
  pub open_string : project_of (codes "config_version=5\na=1\nb=[\n\"") ≡ fails SceneSyntax 3 1
  pub open_bracket : project_of (codes "config_version=5\na={\n\n") ≡ fails SceneSyntax 2 1
  -- lines of another form
  pub empty_section : project_of (codes "config_version=5\n[]\n") ≡ fails SceneSyntax 2 1
  pub behind_section : project_of (codes "config_version=5\n\n[a] \n") ≡ fails SceneSyntax 3 1
  pub blank_before : project_of (codes "config_version=5\n ;a=1\n") ≡ fails SceneSyntax 2 1
  pub blank_line : project_of (codes "config_version=5\n \t\n") ≡ starts None []
  pub no_key : project_of (codes "config_version=5\n=1\n") ≡ fails SceneSyntax 2 1
  pub blank_behind_key : project_of (codes "config_version=5\na =1\n") ≡ fails SceneSyntax 2 1
  -- a byte that is no UTF-8, before and behind what is broken
  pub bad_byte : project_of (codes "config_version=5\na=\"" ++ 255 ∷ codes "\"\n") ≡ fails BadBytes 2 4
  pub bad_byte_behind : project_of (codes "config_version=5\n[]" ++ 255 ∷ []) ≡ fails SceneSyntax 2 1
  pub bad_byte_alone : project_of (codes "config_version=5\nab" ++ 255 ∷ []) ≡ fails BadBytes 2 3
  pub cut_version : project_of (codes "config_version=5" ++ 255 ∷ []) ≡ fails SceneSyntax 1 1
  -- a byte order mark is skipped
  pub marked : project_of (239 ∷ 187 ∷ 191 ∷ codes "config_version=5") ≡ starts None []
