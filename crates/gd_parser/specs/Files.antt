-- The heads of a file while they are read, and the file as a whole.
use Rattle.std.specs.Prelude.{◌≡◌, ◌||◌, true, not, ℕ, Bool, List, Result, Ok, Err}
use Rattle.std.specs.List.{list_any}
use Rattle.gd_syntax.specs.declared.fault.Place.{Place}
use Rattle.gd_syntax.specs.declared.fault.SolveError.{SolveError}
use Rattle.gd_syntax.specs.declared.fault.SolveError.TheVariants.{Fault, NoMemory}
use Rattle.gd_syntax.specs.declared.token.Token.{Token}
use Rattle.gd_syntax.specs.declared.tree.member.Script.{Script}
use Rattle.gd_syntax.specs.Reading.{Outcome, Read, Stops, Reading, Turn, Fails}
use Rattle.gd_syntax.specs.MemberGrammar.{is_field_annotation}
use Rattle.gd_syntax.specs.ScriptGrammar.{Heads, is_head_annotation, is_named, is_based, head as one_head, in_header, script}
use Rattle.gd_parser.specs.declared.script.FoundHeads.{FoundHeads}

abbrev pub heads_of : FoundHeads → Heads
heads_of f = (f.heads, f.behind.items)

-- for rules that do not ask where the header ends
abbrev pub anywhere : ℕ → Bool
anywhere = λ at. true

module _ (tokens : List Token) (header_end : Place) where
  -- a head, or an annotation that may be one
  abbrev pub head : Heads → Reading (Turn Heads)
  head = one_head tokens (in_header tokens header_end)

  -- whether no `class_name` may stand behind these heads
  abbrev pub name_refused : FoundHeads → ℕ → Bool
  name_refused f at = list_any is_field_annotation f.behind.items || (list_any is_named f.heads || not (in_header tokens header_end at))

-- whether no `extends` may
abbrev pub base_refused : FoundHeads → Bool
base_refused f = list_any is_field_annotation f.behind.items || list_any is_based f.heads

-- The flags say what annotations stand behind the heads.
pub record HasFlags (f : FoundHeads) : Type 0 where
  pub field : f.behind_field ≡ list_any is_field_annotation f.behind.items
  pub head : f.behind_head ≡ list_any is_head_annotation f.behind.items

-- The tree of a file, or the fault where its reading stops; want of memory says nothing.
abbrev pub IsParsed : List Token → Place → Result Script SolveError → Type 0
IsParsed tokens header_end (Ok tree) = (end : ℕ) × script tokens header_end 0 (Read tree end)
IsParsed tokens header_end (Err e) = Fails e (script tokens header_end 0)

-- The outcome is what was answered, unless memory ran out.
abbrev pub GivesTree : Result Script SolveError → Outcome Script → Type 0
GivesTree (Ok tree) o = (end : ℕ) × (o ≡ Read tree end)
GivesTree (Err NoMemory) o = Unit {0}
GivesTree (Err (Fault f)) o = o ≡ Stops f
