-- The facts of some files, by their numbers.
use Rattle.std.specs.Prelude.{ℕ, nat_eq, List, map, Option}
use Rattle.std.specs.Map.{lookup}
use Rattle.std.specs.declared.sync.Arc.{Arc}
use Rattle.std.specs.declared.alloc.Global.{Global}
use Rattle.folder_meaning.specs.declared.facts.FileFacts.{FileFacts}

-- the facts of a file, where it is there
abbrev pub facts_of : List (ℕ × FileFacts) → ℕ → Option FileFacts
facts_of files file = lookup (nat_eq file) files

-- those that the code holds
abbrev pub files_of : List (ℕ × Arc FileFacts Global) → List (ℕ × FileFacts)
files_of pairs = map (λ pair. (pair.0, pair.1.value)) pairs
