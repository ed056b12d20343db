-- What the text of a script is read as: the first fault of its tokens, else that of its tree, else `Unbuilt` where the
-- file is not taken, else the machine's script.
use Rattle.std.specs.Prelude.{◌≡◌, ℕ, List, Result, Ok, Err}
use Rattle.gd_syntax.specs.declared.fault.LoadFault.{LoadFault}
use Rattle.gd_syntax.specs.declared.fault.Place.{Place}
use Rattle.gd_syntax.specs.declared.fault.SolveError.{SolveError}
use Rattle.gd_syntax.specs.declared.fault.SolveError.TheVariants.{Fault, NoMemory}
use Rattle.gd_syntax.specs.declared.first.FirstScript.{FirstScript}
use Rattle.gd_syntax.specs.declared.token.Token.{Token}
use Rattle.gd_syntax.specs.declared.tree.member.Script.{Script as Tree}
use Rattle.gd_syntax.specs.FirstScript.{script_of}
use Rattle.gd_syntax.specs.FirstTree.{Script}
use Rattle.gd_syntax.specs.Header.{header_end_of}
use Rattle.gd_syntax.specs.Layout.{Answer, tokens_in_bytes}
use Rattle.gd_syntax.specs.Reading.{Outcome, Read, Stops}
use Rattle.gd_syntax.specs.ScriptGrammar as grammar
use Rattle.gdrun.specs.Single.{script_of_tree}
use Rattle.gdrun.specs.Taken as what_is_taken

pub data FileReading : Type 0 where
  taken : Script → FileReading
  faulty : LoadFault → FileReading

-- a file with this tree, by the reading of what is taken
abbrev pub reading_of_tree : Tree → Outcome (Unit {0}) → FileReading
reading_of_tree tree (Read _ end) = taken (script_of_tree tree)
reading_of_tree tree (Stops fault) = faulty fault

pub record IsReadingOfTree (tokens : List Token) (tree : Tree) (reading : FileReading) : Type 0 where
  pub outcome : Outcome (Unit {0})
  pub read : what_is_taken.file tokens 0 outcome
  pub is : reading ≡ reading_of_tree tree outcome

abbrev pub IsReadingOfOutcome : List Token → Outcome Tree → FileReading → Type 0
IsReadingOfOutcome tokens (Read tree end) reading = IsReadingOfTree tokens tree reading
IsReadingOfOutcome tokens (Stops fault) reading = reading ≡ faulty fault

-- the tokens of a file whose header lines end at this place are read so
pub record IsReadingOfTokens (header_end : Place) (tokens : List Token) (reading : FileReading) : Type 0 where
  pub outcome : Outcome Tree
  pub read : grammar.script tokens header_end 0 outcome
  pub is : IsReadingOfOutcome tokens outcome reading

abbrev pub IsReadingOfAnswer : Place → Answer → FileReading → Type 0
IsReadingOfAnswer header_end (Ok tokens) reading = IsReadingOfTokens header_end tokens reading
IsReadingOfAnswer header_end (Err fault) reading = reading ≡ faulty fault

-- what the bytes of a file are read as
abbrev pub IsFileReading : List ℕ → FileReading → Type 0
IsFileReading bytes reading = IsReadingOfAnswer (header_end_of bytes) (tokens_in_bytes bytes) reading

-- what reading tokens answers
abbrev pub IsTokensRead : Place → List Token → Result FirstScript SolveError → Type 0
IsTokensRead header_end tokens (Ok script) = IsReadingOfTokens header_end tokens (taken (script_of script))
IsTokensRead header_end tokens (Err (Fault fault)) = IsReadingOfTokens header_end tokens (faulty fault)
IsTokensRead header_end tokens (Err NoMemory) = Unit {0}

-- what reading a file answers
abbrev pub IsRead : List ℕ → Result FirstScript SolveError → Type 0
IsRead bytes (Ok script) = IsFileReading bytes (taken (script_of script))
IsRead bytes (Err (Fault fault)) = IsFileReading bytes (faulty fault)
IsRead bytes (Err NoMemory) = Unit {0}
