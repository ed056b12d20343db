-- Each text is read in exactly one way.
use Rattle.std.proofs.Common.{◌≡◌, ◌∙◌, ℕ, List, refl, sym, ap, subst, Result, Ok, Err}
use Rattle.gd_syntax.specs.declared.fault.Place.{Place}
use Rattle.gd_syntax.specs.declared.token.Token.{Token}
use Rattle.gd_syntax.specs.declared.tree.member.Script.{Script as Tree}
use Rattle.gd_syntax.specs.Reading.{Outcome, Read, Stops, Fails}
use Rattle.gd_syntax.specs.ScriptGrammar.{script}
use Rattle.gd_syntax.specs.declared.fault.SolveError.{SolveError}
use Rattle.gd_syntax.specs.declared.fault.SolveError.TheVariants.{Fault, NoMemory}
use Rattle.gd_syntax.specs.declared.first.FirstScript.{FirstScript}
use Rattle.std.specs.Result.{IsErrAnd}
use Rattle.gd_syntax.specs.Header.{header_end_of}
use Rattle.gd_syntax.specs.Layout.{Answer, tokens_in_bytes}
use Rattle.grammar_laws.proofs.ExistsScripts.{takes_script}
use Rattle.gd_syntax.proofs.OnlyScripts.{only_script}
use Rattle.gdrun.specs.FileReading.{FileReading, faulty, reading_of_tree, IsReadingOfTree, IsReadingOfOutcome, IsReadingOfTokens, IsReadingOfAnswer, IsFileReading, IsTokensRead}
use Rattle.gdrun.specs.Taken.{file}
use Rattle.gdrun.proofs.TakenForms.{takes_file, only_file}

some_tree : (tokens : List Token) (tree : Tree) → (reading : FileReading) × IsReadingOfTree tokens tree reading
some_tree tokens tree =
    let some = (takes_file tokens).some 0 in
    (reading_of_tree tree some.0, record { outcome = some.0; read = some.1; is = refl })

some_outcome : (tokens : List Token) (outcome : Outcome Tree) → (reading : FileReading) × IsReadingOfOutcome tokens outcome reading
some_outcome tokens (Read tree end) = some_tree tokens tree
some_outcome tokens (Stops fault) = (faulty fault, refl)

some_answer : (header_end : Place) (answer : Answer) → (reading : FileReading) × IsReadingOfAnswer header_end answer reading
some_answer header_end (Ok tokens) =
    let some = (takes_script tokens header_end).some 0 in
    let reading = some_outcome tokens some.0 in
    (reading.0, record { outcome = some.0; read = some.1; is = reading.1 })
some_answer header_end (Err fault) = (_, refl)

pub some_file_reading : (text : List ℕ) → (reading : FileReading) × IsFileReading text reading
some_file_reading text = some_answer (header_end_of text) (tokens_in_bytes text)

same_outcome : (tokens : List Token) (outcome : Outcome Tree) (a b : FileReading) → IsReadingOfOutcome tokens outcome a → IsReadingOfOutcome tokens outcome b → a ≡ b
same_outcome tokens (Read tree end) a b left right =
    left.is ∙ ap (reading_of_tree tree) (only_file tokens 0 left.outcome right.outcome left.read right.read) ∙ sym right.is
same_outcome tokens (Stops fault) a b left right = left ∙ sym right

same_answer : (header_end : Place) (answer : Answer) (a b : FileReading) → IsReadingOfAnswer header_end answer a → IsReadingOfAnswer header_end answer b → a ≡ b
same_answer header_end (Ok tokens) a b left right =
    let same = only_script tokens header_end 0 right.outcome left.outcome right.read left.read in
    same_outcome tokens left.outcome a b left.is (subst (λ o. IsReadingOfOutcome tokens o b) same right.is)
same_answer header_end (Err fault) a b left right = left ∙ sym right

pub same_file_reading : (text : List ℕ) (a b : FileReading) → IsFileReading text a → IsFileReading text b → a ≡ b
same_file_reading text a b left right = same_answer (header_end_of text) (tokens_in_bytes text) a b left right

module _ (header_end : Place) (tokens : List Token) (tree : Tree) (end : ℕ) (read : script tokens header_end 0 (Read tree end)) where
  refused : (e : SolveError) → Fails e (file tokens 0) → IsTokensRead header_end tokens (Err e)
  refused NoMemory h = tt
  refused (Fault f) h = record { outcome = Read tree end; read = read; is = record { outcome = Stops f; read = h; is = refl } }

  -- a file with a tree that is not taken
  pub not_taken : (r : Result FirstScript SolveError) (e : SolveError) → IsErrAnd r (λ y. y ≡ e) → Fails e (file tokens 0) → IsTokensRead header_end tokens r
  not_taken (Ok x) e is h = absurd is
  not_taken (Err x) e is h = refused x (subst (λ y. Fails y (file tokens 0)) (sym is) h)
