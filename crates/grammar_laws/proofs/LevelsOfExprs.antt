-- What an expression that is read has at most of levels.
use Rattle.std.proofs.Common.{◌≡◌, ℕ, zero, suc, ◌+◌, ◌-◌, ◌≤◌, ◌<◌, ◌==◌, max, Bool, true, false, List, map, Option, Some, None, arith}
use Rattle.gd_syntax.specs.declared.fault.Place.{Place}
use Rattle.gd_syntax.specs.declared.token.Token.{Token}
use Rattle.gd_syntax.specs.declared.token.Kind.{Kind}
use Rattle.gd_syntax.specs.declared.token.Kind.TheVariants.{Mark as Marked, Name, Text}
use Rattle.gd_syntax.specs.declared.token.Mark.{Mark}
use Rattle.gd_syntax.specs.declared.token.Mark.TheVariants as m
use Rattle.gd_syntax.specs.declared.tree.type_name.Identifier.{Identifier}
use Rattle.gd_syntax.specs.declared.tree.expr.Literal.{Literal}
use Rattle.gd_syntax.specs.declared.tree.expr.TreeOp.{TreeOp}
use Rattle.gd_syntax.specs.declared.tree.expr.TreeOp.TheVariants as op
use Rattle.gd_syntax.specs.declared.tree.expr.TreePrefix.{TreePrefix}
use Rattle.gd_syntax.specs.declared.tree.expr.Expr.{Expr}
use Rattle.gd_syntax.specs.declared.tree.expr.Expr.TheVariants as e
use Rattle.gd_syntax.specs.Levels.{levels, most}
use Rattle.gd_syntax.specs.Operators.{PREFIX, NOT, OR, TERNARY, AS}
use Rattle.gd_syntax.specs.Reading.{Read, Reading, Turn, On, Last}
use Rattle.gd_syntax.specs.Refusals.{is_load}
use Rattle.gd_syntax.specs.TokenReading.{list, place_at, is_plain}
use Rattle.gd_syntax.specs.ExprGrammar.{leaf, entry, field, dict_by, preload, load, node_by, super_by, named, other_by, operand_by, operand, part_by, postfix, kind_test_by, test_by, type_test, prefix_by, prefix, operation_by, BinaryTurn, binary, negation_by, negation, level, ternary_by, ternary, cast_by, cast, form, deeper, expression}
use Rattle.gd_syntax.proofs.Levels.{levels-Literal, levels-Name, levels-This, levels-Paren, levels-Array, levels-Dict, levels-Table, levels-Preload, levels-Load, levels-NodePath, levels-NodeText, levels-Super, levels-SuperCall, levels-Index, levels-Member, levels-Call, levels-Is, levels-IsNot, levels-Prefix, levels-Binary, levels-Not, levels-Ternary, levels-As, most_push}
use Rattle.grammar_laws.proofs.Gives.{Gives, gives_then, gives_after, gives_look, gives_either, gives_give, gives_stops, gives_more, TurnOf, gives_loop, gives_fits, gives_list}

module _ (tokens : List Token) where
  module _ (room : ℕ) (some : 1 ≤ room) where
    abbrev Low : Expr → Type 0
    Low t = levels t ≤ room

    -- as a part of so many forms that have begun
    abbrev Part : ℕ → Expr → Type 0
    Part k t = levels t + suc k ≤ room

    abbrev AreParts : List Expr → Type 0
    AreParts all = suc (most (map levels all)) ≤ room

    abbrev pair_levels : Expr × Expr → ℕ
    pair_levels x = max (levels x.0) (levels x.1)

    abbrev field_levels : Identifier × Expr → ℕ
    field_levels x = levels x.1

    abbrev AreEntries : List (Expr × Expr) → Type 0
    AreEntries all = suc (most (map pair_levels all)) ≤ room

    abbrev AreFields : List (Identifier × Expr) → Type 0
    AreFields all = suc (most (map field_levels all)) ≤ room

    -- a leaf
    low_one : (tree : Expr) → levels tree ≡ 1 → Low tree
    low_one tree is = omega (arith, is, some)

    module _ (inner : ℕ → ℕ → Reading Expr) (i : (k n : ℕ) → Gives (Part k) (inner k n)) where
      low_leaf : (tree : Expr) → levels tree ≡ 1 → Gives Low (leaf tokens room inner tree)
      low_leaf tree is = gives_after Low _ _ (λ _. gives_give Low tree (low_one tree is))

      parts : (closing : Mark) → Gives AreParts (list tokens (inner 0 AS) closing)
      parts closing = gives_list tokens AreParts (Part 0) (inner 0 AS) (i 0 AS) (λ sofar x h k. let e = most_push levels sofar x in omega (arith, h, k, e)) closing some

      entry_low : Gives (λ x. pair_levels x + 1 ≤ room) (entry tokens room inner)
      entry_low = gives_then (Part 0) (λ x. pair_levels x + 1 ≤ room) _ _ (i 0 AS) (λ key h. gives_after (λ x. pair_levels x + 1 ≤ room) _ _
          (λ _. gives_then (Part 0) (λ x. pair_levels x + 1 ≤ room) _ _ (i 0 AS) (λ value k. gives_give (λ x. pair_levels x + 1 ≤ room) (key, value) (omega (arith, h, k)))))

      field_low : Gives (λ x. field_levels x + 1 ≤ room) (field tokens room inner)
      field_low = gives_after (λ x. field_levels x + 1 ≤ room) _ _ (λ key. gives_after (λ x. field_levels x + 1 ≤ room) _ _
          (λ _. gives_then (Part 0) (λ x. field_levels x + 1 ≤ room) _ _ (i 0 AS) (λ value k. gives_give (λ x. field_levels x + 1 ≤ room) (key, value) k)))

      low_dict_by : (place : Place) (b : Bool) → Gives Low (dict_by tokens room inner place b)
      low_dict_by place true = gives_then AreFields Low _ _
          (gives_list tokens AreFields (λ x. field_levels x + 1 ≤ room) (field tokens room inner) field_low (λ sofar x h k. let e = most_push field_levels sofar x in omega (arith, h, k, e)) m.RBrace some)
          (λ all h. gives_give Low (e.Table place all) (omega (arith, h, levels-Table place all)))
      low_dict_by place false = gives_then AreEntries Low _ _
          (gives_list tokens AreEntries (λ x. pair_levels x + 1 ≤ room) (entry tokens room inner) entry_low (λ sofar x h k. let e = most_push pair_levels sofar x in omega (arith, h, k, e)) m.RBrace some)
          (λ all h. gives_give Low (e.Dict place all) (omega (arith, h, levels-Dict place all)))

      low_preload : (place : Place) → Gives Low (preload tokens room inner place)
      low_preload place = gives_after Low _ _ (λ _. gives_after Low _ _ (λ _. gives_after Low _ _ (λ path. gives_after Low _ _
          (λ _. gives_give Low (e.Preload place path) (low_one (e.Preload place path) (levels-Preload place path))))))

      low_load : (place : Place) → Gives Low (load tokens room inner place)
      low_load place = gives_after Low _ _ (λ _. gives_after Low _ _ (λ _. gives_after Low _ _ (λ path. gives_after Low _ _
          (λ _. gives_give Low (e.Load place path) (low_one (e.Load place path) (levels-Load place path))))))

      low_node_by : (place : Place) (k : Kind) → Gives Low (node_by tokens room inner place k)
      low_node_by place (Text text) = low_leaf (e.NodeText place text) (levels-NodeText place text)
      low_node_by place _ = gives_after Low _ _ (λ first. gives_after Low _ _ (λ names. gives_give Low (e.NodePath place names) (low_one (e.NodePath place names) (levels-NodePath place names))))

      low_super_by : (place : Place) (k : Option Mark) → Gives Low (super_by tokens room inner place k)
      low_super_by place (Some m.LParen) = gives_after Low _ _ (λ _. gives_then AreParts Low _ _ (parts m.RParen) (λ args h. gives_give Low (e.Super place args) (omega (arith, h, levels-Super place args))))
      low_super_by place (Some m.Dot) = gives_after Low _ _ (λ _. gives_after Low _ _ (λ name. gives_after Low _ _
          (λ _. gives_then AreParts Low _ _ (parts m.RParen) (λ args h. gives_give Low (e.SuperCall place name args) (omega (arith, h, levels-SuperCall place name args))))))
      low_super_by place _ = gives_stops Low _

      low_named : (place : Place) (text : List ℕ) → Gives Low (named tokens room inner place text)
      low_named place text = gives_either Low (is_plain text) _ _ (low_leaf (e.Name place text) (levels-Name place text)) (gives_either Low (is_load text) _ _ (low_load place) (gives_stops Low _))

      low_other_by : (place : Place) (k : Kind) → Gives Low (other_by tokens room inner place k)
      low_other_by place (Name text) = low_named place text
      low_other_by place (Marked m.This) = low_leaf (e.This place) (levels-This place)
      low_other_by place (Marked m.LParen) = gives_after Low _ _ (λ _. gives_after Low _ _
          (λ _. gives_then (Part 0) Low _ _ (i 0 AS) (λ x h. gives_after Low _ _ (λ _. gives_give Low (e.Paren place x) (omega (arith, h, levels-Paren place x))))))
      low_other_by place (Marked m.LBracket) = gives_after Low _ _ (λ _. gives_then AreParts Low _ _ (parts m.RBracket) (λ all h. gives_give Low (e.Array place all) (omega (arith, h, levels-Array place all))))
      low_other_by place (Marked m.LBrace) = gives_after Low _ _ (λ _. gives_look Low _ _ (low_dict_by place))
      low_other_by place (Marked m.Preload) = low_preload place
      low_other_by place (Marked m.Super) = gives_after Low _ _ (λ _. gives_look Low _ _ (low_super_by place))
      low_other_by place (Marked m.Dollar) = gives_after Low _ _ (λ _. gives_look Low _ _ (low_node_by place))
      low_other_by place _ = gives_stops Low _

      low_operand_by : (place : Place) (value : Option Literal) → Gives Low (operand_by tokens room inner place value)
      low_operand_by place (Some value) = low_leaf (e.Literal place value) (levels-Literal place value)
      low_operand_by place None = gives_look Low _ _ (low_other_by place)

      low_operand : Gives Low (operand tokens room inner)
      low_operand at = gives_look Low _ _ (low_operand_by (place_at tokens at)) at

      abbrev Goes : Turn Expr → Type 0
      Goes = TurnOf Low

      low_part_by : (place : Place) (a : Expr) → Low a → (k : Option Mark) → Gives Goes (part_by tokens room inner place a k)
      low_part_by place a low (Some m.LBracket) = gives_then (λ _. levels a + 1 ≤ room) Goes _ _ (gives_fits tokens room (levels a + 1)) (λ _ f. gives_after Goes _ _
          (λ _. gives_then (Part 0) Goes _ _ (i 0 AS) (λ x h. gives_after Goes _ _ (λ _. gives_give Goes (On (e.Index place a x)) (omega (arith, f, h, levels-Index place a x))))))
      low_part_by place a low (Some m.Dot) = gives_then (λ _. levels a + 1 ≤ room) Goes _ _ (gives_fits tokens room (levels a + 1)) (λ _ f. gives_after Goes _ _
          (λ _. gives_after Goes _ _ (λ name. gives_give Goes (On (e.Member place a name)) (omega (arith, f, levels-Member place a name)))))
      low_part_by place a low (Some m.LParen) = gives_then (λ _. levels a + 1 ≤ room) Goes _ _ (gives_fits tokens room (levels a + 1)) (λ _ f. gives_after Goes _ _
          (λ _. gives_then AreParts Goes _ _ (parts m.RParen) (λ args h. gives_give Goes (On (e.Call place a args)) (omega (arith, f, h, levels-Call place a args)))))
      low_part_by place a low _ = gives_give Goes (Last a) low

      low_postfix : Gives Low (postfix tokens room inner)
      low_postfix at = gives_then Low Low _ _ low_operand (λ a low. gives_loop Low _ (λ b h. gives_look Goes _ _ (low_part_by (place_at tokens at) b h)) a low) at

      low_kind_test_by : (place : Place) (a : Expr) → levels a + 1 ≤ room → (k : Option Mark) → Gives Goes (kind_test_by tokens room inner place a k)
      low_kind_test_by place a f (Some m.Not) = gives_after Goes _ _ (λ _. gives_after Goes _ _ (λ t. gives_give Goes (On (e.IsNot place a t)) (omega (arith, f, levels-IsNot place a t))))
      low_kind_test_by place a f _ = gives_after Goes _ _ (λ t. gives_give Goes (On (e.Is place a t)) (omega (arith, f, levels-Is place a t)))

      low_test_by : (place : Place) (a : Expr) → Low a → (k : Option Mark) → Gives Goes (test_by tokens room inner place a k)
      low_test_by place a low (Some m.Is) = gives_then (λ _. levels a + 1 ≤ room) Goes _ _ (gives_fits tokens room (levels a + 1)) (λ _ f. gives_after Goes _ _ (λ _. gives_look Goes _ _ (low_kind_test_by place a f)))
      low_test_by place a low _ = gives_give Goes (Last a) low

      low_type_test : Gives Low (type_test tokens room inner)
      low_type_test at = gives_then Low Low _ _ low_postfix (λ a low. gives_loop Low _ (λ b h. gives_look Goes _ _ (low_test_by (place_at tokens at) b h)) a low) at

      low_prefix_by : (place : Place) (op : Option TreePrefix) → Gives Low (prefix_by tokens room inner place op)
      low_prefix_by place (Some op) = gives_after Low _ _ (λ _. gives_after Low _ _ (λ _. gives_then (Part 0) Low _ _ (i 0 PREFIX) (λ x h. gives_give Low (e.Prefix place op x) (omega (arith, h, levels-Prefix place op x)))))
      low_prefix_by place None = low_type_test

      low_prefix : Gives Low (prefix tokens room inner)
      low_prefix at = gives_look Low _ _ (low_prefix_by (place_at tokens at)) at

      low_operation_by : (n : ℕ) (place : Place) (a : Expr) (op : Option TreeOp) → Gives Goes (operation_by tokens room inner n place a op)
      low_operation_by n place a (Some op) = gives_then (λ _. levels a + 1 ≤ room) Goes _ _ (gives_fits tokens room (levels a + 1)) (λ _ f. gives_after Goes _ _
          (λ _. gives_then (Part 0) Goes _ _ (i 0 (n - 1)) (λ b h. gives_give Goes (On (e.Binary place op a b)) (omega (arith, f, h, levels-Binary place op a b)))))
      low_operation_by n place a None = gives_then (λ _. levels a + 2 ≤ room) Goes _ _ (gives_fits tokens room (levels a + 2)) (λ _ f. gives_after Goes _ _ (λ _. gives_after Goes _ _
          (λ _. gives_then (Part 1) Goes _ _ (i 1 (n - 1))
          (λ b h. gives_give Goes (On (e.Not place (e.Binary place op.Within a b))) (omega (arith, f, h, levels-Not place (e.Binary place op.Within a b), levels-Binary place op.Within a b))))))

      low_turn : (n : ℕ) (place : Place) (a : Expr) → Low a → Gives Goes (BinaryTurn tokens room inner n place a)
      low_turn n place a low at next b (BinaryTurn.operated x y) = gives_look Goes _ _ (low_operation_by n place a) at next b y
      low_turn n place a low at next b (BinaryTurn.ends x) = low

      low_binary : (n : ℕ) (tighter : Reading Expr) → Gives Low tighter → Gives Low (binary tokens room inner n tighter)
      low_binary n tighter t at = gives_then Low Low _ _ t (λ a low. gives_loop Low _ (low_turn n (place_at tokens at)) a low) at

      low_negation_by : (place : Place) (tighter : Reading Expr) → Gives Low tighter → (b : Bool) → Gives Low (negation_by tokens room inner place tighter b)
      low_negation_by place tighter t true = gives_after Low _ _ (λ _. gives_after Low _ _ (λ _. gives_then (Part 0) Low _ _ (i 0 NOT) (λ x h. gives_give Low (e.Not place x) (omega (arith, h, levels-Not place x)))))
      low_negation_by place tighter t false = t

      low_negation : (tighter : Reading Expr) → Gives Low tighter → Gives Low (negation tokens room inner tighter)
      low_negation tighter t at = gives_look Low _ _ (low_negation_by (place_at tokens at) tighter t) at

      low_level : (n : ℕ) → Gives Low (level tokens room inner n)
      unfolding level
      low_level zero = low_prefix
      low_level (suc n) = gives_either Low (n == 8) _ _ (low_negation _ (low_level n)) (low_binary (suc n) _ (low_level n))

      low_ternary_by : (place : Place) (a : Expr) → Low a → (k : Option Mark) → Gives Low (ternary_by tokens room inner place a k)
      low_ternary_by place a low (Some m.If) = gives_then (λ _. levels a + 1 ≤ room) Low _ _ (gives_fits tokens room (levels a + 1)) (λ _ f. gives_after Low _ _
          (λ _. gives_then (Part 0) Low _ _ (i 0 OR) (λ c h. gives_after Low _ _
          (λ _. gives_then (Part 0) Low _ _ (i 0 TERNARY) (λ b k. gives_give Low (e.Ternary place a c b) (omega (arith, f, h, k, levels-Ternary place a c b)))))))
      low_ternary_by place a low _ = gives_give Low a low

      low_ternary : Gives Low (ternary tokens room inner)
      low_ternary at = gives_then Low Low _ _ (low_level OR) (λ a low. gives_look Low _ _ (low_ternary_by (place_at tokens at) a low)) at

      low_cast_by : (place : Place) (a : Expr) → Low a → (k : Option Mark) → Gives Goes (cast_by tokens room inner place a k)
      low_cast_by place a low (Some m.As) = gives_then (λ _. levels a + 1 ≤ room) Goes _ _ (gives_fits tokens room (levels a + 1)) (λ _ f. gives_after Goes _ _
          (λ _. gives_after Goes _ _ (λ t. gives_give Goes (On (e.As place a t)) (omega (arith, f, levels-As place a t)))))
      low_cast_by place a low _ = gives_give Goes (Last a) low

      low_cast : Gives Low (cast tokens room inner)
      low_cast at = gives_then Low Low _ _ low_ternary (λ a low. gives_loop Low _ (λ b h. gives_look Goes _ _ (low_cast_by (place_at tokens at) b h)) a low) at

      low_form : (n : ℕ) → Gives Low (form tokens room inner n)
      unfolding form
      low_form n = gives_either Low (n == AS) _ _ low_cast (gives_either Low (n == TERNARY) _ _ low_ternary (low_level n))

  -- what a part of so many further forms has, which is read only where there is room
  abbrev Fits : ℕ → ℕ → Expr → Type 0
  Fits room k t = (levels t + k ≤ room) × (k < room)

  low_deeper : (room k n : ℕ) → Gives (Fits room k) (deeper tokens room k n)
  unfolding deeper
  low_deeper zero k n = gives_stops (Fits zero k) _
  low_deeper (suc room) zero n =
      gives_more (λ t. levels t ≤ suc room) (Fits (suc room) 0) (form tokens (suc room) (deeper tokens room) n) (λ t h. (omega (arith, h), omega arith))
      (low_form (suc room) (omega arith) (deeper tokens room) (λ k n. gives_more (Fits room k) (λ t. levels t + suc k ≤ suc room) (deeper tokens room k n) (λ t h. omega (arith, h.0)) (low_deeper room k n)) n)
  low_deeper (suc room) (suc k) n = gives_more (Fits room k) (Fits (suc room) (suc k)) (deeper tokens room k n) (λ t h. (omega (arith, h.0), omega (arith, h.1))) (low_deeper room k n)

  pub low_expression : (depth n at next : ℕ) (tree : Expr) → expression tokens (128 - depth) n at (Read tree next) → levels tree + depth ≤ 128
  low_expression depth n at next tree h = let fits = low_deeper (128 - depth) 0 n at next tree h in omega (arith, fits.0, fits.1)
