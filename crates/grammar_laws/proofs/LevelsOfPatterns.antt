-- What a pattern that is read has at most of levels.
use Rattle.std.proofs.Common.{◌≡◌, ℕ, zero, suc, ◌+◌, ◌-◌, ◌≤◌, Bool, true, false, cond, List, [], ◌∷◌, ◌++◌, map, Option, Some, None, subst, bytes_eq, codes, arith}
use Rattle.gd_syntax.specs.declared.fault.Place.{Place}
use Rattle.gd_syntax.specs.declared.fault.LoadFault.{LoadFault}
use Rattle.gd_syntax.specs.declared.token.Token.{Token}
use Rattle.gd_syntax.specs.declared.token.Kind.{Kind}
use Rattle.gd_syntax.specs.declared.token.Kind.TheVariants.{Mark as Marked}
use Rattle.gd_syntax.specs.declared.token.Mark.{Mark}
use Rattle.gd_syntax.specs.declared.token.Mark.TheVariants as m
use Rattle.gd_syntax.specs.declared.tree.expr.Literal.{Literal}
use Rattle.gd_syntax.specs.declared.tree.pattern.Pattern.{Pattern}
use Rattle.gd_syntax.specs.declared.tree.pattern.Pattern.TheVariants as p
use Rattle.gd_syntax.specs.declared.tree.pattern.PatternEntry.{PatternEntry}
use Rattle.gd_syntax.specs.Levels.{most}
use Rattle.gd_syntax.specs.Reading.{Read, Stops, Reading, On, Last}
use Rattle.gd_syntax.specs.TokenReading.{kind_at, place_at}
use Rattle.gd_syntax.specs.PatternGrammar.{is_when, more_by, items_by, open_list, path_pattern, path, key_by, value_by, entry_pattern, other_pattern_by, pattern_by, finished, pattern_form, pattern}
use Rattle.gd_syntax.specs.StatementGrammar.{unbound_other_by, unbound_by, unbound_form, unbound}
use Rattle.gd_syntax.proofs.Levels.{most_push}
use Rattle.grammar_laws.specs.PatternLevels.{pattern_levels, value_levels, entry_levels}
use Rattle.grammar_laws.proofs.PatternForms.{levels-Wildcard, levels-Bind, levels-Literal, levels-Path, levels-Array, levels-Dict}
use Rattle.grammar_laws.proofs.Gives.{Gives, gives_then, gives_after, gives_look, gives_give, gives_stops, gives_more, TurnOf, gives_loop, gives_fits}

path_case : (place : Place) (name : List ℕ) (b : Bool) → pattern_levels (cond b (p.Wildcard place) (p.Path place (name ∷ []))) ≡ 1
path_case place name true = levels-Wildcard place
path_case place name false = levels-Path place (name ∷ [])

levels_path : (place : Place) (names : List (List ℕ)) → pattern_levels (path_pattern place names) ≡ 1
levels_path place [] = levels-Path place []
levels_path place (name ∷ []) = path_case place name (bytes_eq name (codes "_"))
levels_path place (name ∷ other ∷ names) = levels-Path place (name ∷ other ∷ names)

finished_case : (P : Pattern → Type 0) (tree : Pattern) (b : Bool) (f : LoadFault) (at next : ℕ) (a : Pattern) → P tree → Read a next ≡ cond b (Stops f) (Read tree at) → P a
finished_case P tree true f at next a p e = absurd (cc e)
finished_case P tree false f at next a p e = let same : tree ≡ a = cc e in subst P same p

module _ (tokens : List Token) where
  module _ {A : Type 0} (I : List A → Type 0) (Q : A → Type 0) (item : Reading A) (q : Gives Q item) (push : (sofar : List A) (x : A) → I sofar → Q x → I (sofar ++ x ∷ [])) (none : I []) where
    gives_more_by : (sofar : List A) → I sofar → (b : Bool) → Gives (TurnOf I) (more_by tokens item sofar b)
    gives_more_by sofar i true = gives_after (TurnOf I) _ _ (λ _. gives_then Q (TurnOf I) _ _ q (λ x h. gives_give (TurnOf I) (On (sofar ++ x ∷ [])) (push sofar x i h)))
    gives_more_by sofar i false = gives_give (TurnOf I) (Last sofar) i

    gives_items_by : (b : Bool) → Gives I (items_by tokens item b)
    gives_items_by true = gives_give I [] none
    gives_items_by false = gives_then Q I _ _ q (λ x h. gives_loop I _ (λ sofar i. gives_look (TurnOf I) _ _ (gives_more_by sofar i)) (x ∷ []) (push [] x none h))

    gives_open_list : (closing : Mark) → Gives (λ all. I all.0) (open_list tokens item closing)
    gives_open_list closing = gives_then I (λ all. I all.0) _ _ (gives_look I _ _ gives_items_by) (λ all i. gives_after (λ all. I all.0) _ _
        (λ unended. gives_after (λ all. I all.0) _ _ (λ _. gives_give (λ all. I all.0) (all, unended) i)))

  module _ (room : ℕ) (some : 1 ≤ room) where
    abbrev Low : Pattern → Type 0
    Low t = pattern_levels t ≤ room

    abbrev Part : Pattern → Type 0
    Part t = pattern_levels t + 1 ≤ room

    abbrev AreParts : List Pattern → Type 0
    AreParts all = suc (most (map pattern_levels all)) ≤ room

    abbrev EntryPart : PatternEntry → Type 0
    EntryPart entry = entry_levels entry + 1 ≤ room

    abbrev AreEntries : List PatternEntry → Type 0
    AreEntries all = suc (most (map entry_levels all)) ≤ room

    low_one : (tree : Pattern) → pattern_levels tree ≡ 1 → Low tree
    low_one tree is = omega (arith, is, some)

    module _ (inner : Reading Pattern) (i : Gives Part inner) where
      low_value_by : 2 ≤ room → (k : Option Mark) → Gives (λ x. value_levels x + 1 ≤ room) (value_by tokens room inner k)
      low_value_by two (Some m.Colon) = gives_after (λ x. value_levels x + 1 ≤ room) _ _ (λ _. gives_then Part (λ x. value_levels x + 1 ≤ room) _ _ i (λ x h. gives_give (λ x. value_levels x + 1 ≤ room) (Some x) (omega (arith, h, two))))
      low_value_by two _ = gives_give (λ x. value_levels x + 1 ≤ room) None (omega (arith, two))

      two_by : (value : Option Literal) → Gives (λ _. 2 ≤ room) (key_by tokens room inner value)
      two_by (Some value) = gives_then (λ _. 2 ≤ room) (λ _. 2 ≤ room) _ _ (gives_fits tokens room 2) (λ _ two. gives_after (λ _. 2 ≤ room) _ _ (λ _. gives_give (λ _. 2 ≤ room) value two))
      two_by None = gives_stops (λ _. 2 ≤ room) _

      low_entry : Gives EntryPart (entry_pattern tokens room inner)
      low_entry at = gives_then (λ _. 2 ≤ room) EntryPart _ _ (gives_look (λ _. 2 ≤ room) _ _ two_by) (λ key two. gives_then (λ x. value_levels x + 1 ≤ room) EntryPart _ _ (gives_look (λ x. value_levels x + 1 ≤ room) _ _ (low_value_by two))
          (λ x h. gives_give EntryPart (record { place = place_at tokens at; key = key; value = x }) h)) at

      low_path : (place : Place) → Gives Low (path tokens room inner place)
      low_path place = gives_after Low _ _ (λ first. gives_after Low _ _ (λ names. gives_give Low (path_pattern place names) (low_one (path_pattern place names) (levels_path place names))))

      low_other_by : (place : Place) (k : Kind) → Gives Low (other_pattern_by tokens room inner place k)
      low_other_by place (Marked m.Var) = gives_after Low _ _ (λ _. gives_after Low _ _ (λ name. gives_give Low (p.Bind place name) (low_one (p.Bind place name) (levels-Bind place name))))
      low_other_by place (Marked m.Minus) = gives_after Low _ _ (λ _. gives_after Low _ _ (λ value. gives_give Low (p.Literal place true value) (low_one (p.Literal place true value) (levels-Literal place true value))))
      low_other_by place (Marked m.LBracket) = gives_after Low _ _ (λ _. gives_then (λ all. AreParts all.0) Low _ _
          (gives_open_list AreParts Part inner i (λ sofar x h k. let e = most_push pattern_levels sofar x in omega (arith, h, k, e)) some m.RBracket)
          (λ all h. gives_give Low (p.Array place all.0 all.1) (omega (arith, h, levels-Array place all.0 all.1))))
      low_other_by place (Marked m.LBrace) = gives_after Low _ _ (λ _. gives_then (λ all. AreEntries all.0) Low _ _
          (gives_open_list AreEntries EntryPart (entry_pattern tokens room inner) low_entry (λ sofar x h k. let e = most_push entry_levels sofar x in omega (arith, h, k, e)) some m.RBrace)
          (λ all h. gives_give Low (p.Dict place all.0 all.1) (omega (arith, h, levels-Dict place all.0 all.1))))
      low_other_by place _ = low_path place

      low_literal : (place : Place) (value : Literal) → Low (p.Literal place false value)
      low_literal place value = low_one (p.Literal place false value) (levels-Literal place false value)

      low_pattern_by : (place : Place) (value : Option Literal) → Gives Low (pattern_by tokens room inner place value)
      low_pattern_by place (Some value) = gives_after Low _ _ (λ _. gives_give Low (p.Literal place false value) (low_literal place value))
      low_pattern_by place None = gives_look Low _ _ (low_other_by place)

      low_finished : (tree : Pattern) → Low tree → Gives Low (finished tokens room inner tree)
      low_finished tree low at next a e = finished_case Low tree (is_when (kind_at tokens at)) _ at next a low e

      low_form : Gives Low (pattern_form tokens room inner)
      low_form at = gives_then Low Low _ _ (gives_look Low _ _ (low_pattern_by (place_at tokens at))) low_finished at

      low_unbound_other_by : (place : Place) (k : Kind) → Gives Low (unbound_other_by tokens room inner place k)
      low_unbound_other_by place (Marked m.Var) = gives_stops Low _
      low_unbound_other_by place k = low_other_by place k

      low_unbound_by : (place : Place) (value : Option Literal) → Gives Low (unbound_by tokens room inner place value)
      low_unbound_by place (Some value) = gives_after Low _ _ (λ _. gives_give Low (p.Literal place false value) (low_literal place value))
      low_unbound_by place None = gives_look Low _ _ (low_unbound_other_by place)

      low_unbound_form : Gives Low (unbound_form tokens room inner)
      low_unbound_form at = gives_then Low Low _ _ (gives_look Low _ _ (low_unbound_by (place_at tokens at))) low_finished at

  -- a pattern is read only where there is room
  abbrev Fits : ℕ → Pattern → Type 0
  Fits room t = (pattern_levels t ≤ room) × (1 ≤ room)

  low_pattern : (room : ℕ) → Gives (Fits room) (pattern tokens room)
  unfolding pattern
  low_pattern zero = gives_stops (Fits zero) _
  low_pattern (suc room) = gives_more (λ t. pattern_levels t ≤ suc room) (Fits (suc room)) (pattern_form tokens (suc room) (pattern tokens room)) (λ t h. (h, omega arith))
      (low_form (suc room) (omega arith) (pattern tokens room) (gives_more (Fits room) (λ t. pattern_levels t + 1 ≤ suc room) (pattern tokens room) (λ t h. omega (arith, h.0)) (low_pattern room)))

  low_unbound : (room : ℕ) → Gives (Fits room) (unbound tokens room)
  unfolding unbound
  low_unbound zero = gives_stops (Fits zero) _
  low_unbound (suc room) = gives_more (λ t. pattern_levels t ≤ suc room) (Fits (suc room)) (unbound_form tokens (suc room) (unbound tokens room)) (λ t h. (h, omega arith))
      (low_unbound_form (suc room) (omega arith) (unbound tokens room) (gives_more (Fits room) (λ t. pattern_levels t + 1 ≤ suc room) (unbound tokens room) (λ t h. omega (arith, h.0)) (low_unbound room)))

  pub pattern_low : (depth at next : ℕ) (tree : Pattern) → pattern tokens (128 - depth) at (Read tree next) → pattern_levels tree + depth ≤ 128
  pattern_low depth at next tree h = let fits = low_pattern (128 - depth) at next tree h in omega (arith, fits.0, fits.1)

  pub unbound_low : (depth at next : ℕ) (tree : Pattern) → unbound tokens (128 - depth) at (Read tree next) → pattern_levels tree + depth ≤ 128
  unbound_low depth at next tree h = let fits = low_unbound (128 - depth) at next tree h in omega (arith, fits.0, fits.1)
