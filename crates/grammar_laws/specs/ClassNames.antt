-- Where the `class_name` of a script stands in its tokens.
use Rattle.std.specs.Prelude.{◌≡◌, ℕ, ◌+◌, ◌<◌, true, List, length, Some}
use Rattle.std.specs.List.{AllByRecursion, filter}
use Rattle.gd_syntax.specs.declared.fault.Place.{Place}
use Rattle.gd_syntax.specs.declared.token.Token.{Token}
use Rattle.gd_syntax.specs.declared.token.Kind.TheVariants.{Name}
use Rattle.gd_syntax.specs.declared.token.Mark.TheVariants.{ClassName}
use Rattle.gd_syntax.specs.declared.tree.member.Head.{Head}
use Rattle.gd_syntax.specs.declared.tree.member.Head.TheVariants as h
use Rattle.gd_syntax.specs.declared.tree.member.Script.{Script}
use Rattle.gd_syntax.specs.declared.tree.type_name.Identifier.{Identifier}
use Rattle.gd_syntax.specs.ScriptGrammar.{in_header, is_named}
use Rattle.gd_syntax.specs.TokenReading.{kind_at, mark_at, place_at}

module _ (tokens : List Token) (header_end : Place) where
  -- The word stands at this place in the tokens, in the header, and the name behind it, on no later line.
  pub record IsNamedAt (place : Place) (name : Identifier) (at : ℕ) : Type 0 where
    pub word : mark_at tokens at ≡ Some ClassName
    pub word_place : place_at tokens at ≡ place
    pub known : in_header tokens header_end at ≡ true
    pub name_is : kind_at tokens (at + 1) ≡ Name name.name
    pub name_place : place_at tokens (at + 1) ≡ name.place

  -- a head that gives a name has it from such a place
  abbrev pub HasName : Head → Type 0
  HasName (h.ClassName place name b) = (at : ℕ) × IsNamedAt place name at
  HasName _ = Unit {0}

  -- each name is that of such a place, and there is one at most
  pub record HasOneName (script : Script) : Type 0 where
    pub names : AllByRecursion HasName script.heads
    pub one : length (filter is_named script.heads) < 2
