-- What contracts see of what a stage may see.
use Rattle.std.specs.Prelude.{ℕ, List}
use Rattle.folder_meaning.specs.declared.facts.FileFacts.{FileFacts}
use Rattle.folder_meaning.specs.declared.globals.Globals.{Globals}

-- the names that all files see, and the facts of some files by their numbers
pub record KnownValue : Type 0 where
  pub globals : Globals
  pub files : List (ℕ × FileFacts)
