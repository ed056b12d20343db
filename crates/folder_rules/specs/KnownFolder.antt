-- The folder that a stage sees: the paths, the names that all files see, and the files whose facts are known.
use Rattle.std.specs.Prelude.{◌≡◌, ℕ, List, Option, Some, None, Result, Ok, Err}
use Rattle.gd_syntax.specs.declared.fault.FaultKind.TheVariants.{Unreadable}
use Rattle.gd_syntax.specs.declared.fault.LoadFault.{LoadFault}
use Rattle.folder_meaning.specs.KnownFiles.{facts_of}
use Rattle.folder_meaning.specs.KnownValue.{KnownValue}
use Rattle.folder_meaning.specs.declared.facts.Content.{Content}
use Rattle.folder_meaning.specs.declared.facts.FileFacts.{FileFacts}
use Rattle.folder_rules.specs.Folders.{Folder}
use Rattle.folder_rules.specs.Reached.{IsRead}

-- a file that is not known is read as one that has no text
abbrev pub known_content : Option FileFacts → Result Content LoadFault
known_content (Some facts) = Ok facts.content
known_content None = Err (record { kind = Unreadable; place = record { line = 0; column = 0 } })

module _ (paths : List (List ℕ)) (known : KnownValue) where
  abbrev pub known_folder : Folder
  known_folder = record { paths = paths; globals = known.globals; look = λ file. known_content (facts_of known.files file) }

  -- All that the bases and constants of the file lead to is known.
  abbrev pub IsKnownWhole : ℕ → Type 0
  IsKnownWhole file = (read : ℕ) → IsRead known_folder file read → (facts : FileFacts) × (facts_of known.files read ≡ Some facts)

  -- What is known of the files is what they are read as.
  abbrev pub IsKnownOf : (ℕ → Result Content LoadFault) → Type 0
  IsKnownOf look = (file : ℕ) (facts : FileFacts) → facts_of known.files file ≡ Some facts → look file ≡ Ok facts.content
