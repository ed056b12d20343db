-- The alternatives of expressions where the next token begins no other, and the levels one by one.
use Rattle.std.proofs.Common.{◌≡◌, ◌≢◌, ℕ, zero, suc, ◌-◌, ◌==◌, ◌||◌, List, [], ◌∷◌, Bool, true, false, Option, Some, refl, subst, arith}
use Rattle.gd_syntax.specs.declared.fault.Place.{Place}
use Rattle.gd_syntax.specs.declared.token.Token.{Token}
use Rattle.gd_syntax.specs.declared.token.Kind.{Kind}
use Rattle.gd_syntax.specs.declared.token.Kind.TheVariants.{Mark as Marked, Name, Text}
use Rattle.gd_syntax.specs.declared.token.Mark.{Mark}
use Rattle.gd_syntax.specs.declared.token.Mark.TheVariants as m
use Rattle.gd_syntax.specs.declared.tree.expr.Expr.{Expr}
use Rattle.gd_syntax.specs.declared.tree.expr.Expr.TheVariants as e
use Rattle.gd_syntax.specs.Operators.{TERNARY, AS}
use Rattle.gd_syntax.specs.Reading.{Outcome, Read, Reading, ◌>>=◌, Look, looks, Turn, On, Last, Loop, give, either}
use Rattle.gd_syntax.specs.declared.stops.Sought.TheVariants.{Operand, Node, Other}
use Rattle.gd_syntax.specs.Refusals.{is_load}
use Rattle.gd_syntax.specs.TokenReading.{kind_at, mark_at, refuse, is_plain, plain_name, OneOf}
use Rattle.gd_syntax.specs.TypeGrammar.{type_name}
use Rattle.gd_syntax.specs.ExprGrammar.{is_other_operand, is_part, step, node_by, super_by, named, other_by, part, part_by, kind_test_by, test, test_by, ternary_by, cast_by, prefix, negation, binary, level, ternary, cast, form, full, deeper, expression}

module _ (tokens : List Token) (room : ℕ) (inner : ℕ → ℕ → Reading Expr) where
  named_none : (place : Place) (text : List ℕ) (at : ℕ) (o : Outcome Expr) (b c : Bool) → is_plain text ≡ b → is_load text ≡ c → (b || c) ≡ false → refuse tokens Operand at o → named tokens room inner place text at o
  named_none place text at o true c x y e h = absurd (cc e)
  named_none place text at o false true x y e h = absurd (cc e)
  named_none place text at o false false x y e h = rw (x, y) h

  other_none_by : (place : Place) (k : Kind) (at : ℕ) (o : Outcome Expr) → is_other_operand k ≡ false → refuse tokens Operand at o → other_by tokens room inner place k at o
  other_none_by place (Name text) at o e h = named_none place text at o (is_plain text) (is_load text) refl refl e h
  other_none_by place (Marked m.This) at o e h = absurd (cc e)
  other_none_by place (Marked m.LParen) at o e h = absurd (cc e)
  other_none_by place (Marked m.LBracket) at o e h = absurd (cc e)
  other_none_by place (Marked m.LBrace) at o e h = absurd (cc e)
  other_none_by place (Marked m.Preload) at o e h = absurd (cc e)
  other_none_by place (Marked m.Super) at o e h = absurd (cc e)
  other_none_by place (Marked m.Dollar) at o e h = absurd (cc e)
  other_none_by place _ at o e h = h

  pub other_none : (place : Place) (at : ℕ) (o : Outcome Expr) → is_other_operand (kind_at tokens at) ≡ false → refuse tokens Operand at o
      → Look (kind_at tokens) (other_by tokens room inner place) at o
  other_none place at o e h = looks refl (other_none_by place (kind_at tokens at) at o e h)

  part_none_by : (place : Place) (a : Expr) (k : Option Mark) (at : ℕ) (o : Outcome (Turn Expr)) → is_part k ≡ false → o ≡ Read (Last a) at → part_by tokens room inner place a k at o
  part_none_by place a (Some m.LBracket) at o e h = absurd (cc e)
  part_none_by place a (Some m.Dot) at o e h = absurd (cc e)
  part_none_by place a (Some m.LParen) at o e h = absurd (cc e)
  part_none_by place a _ at o e h = h

  pub part_none : (place : Place) (a : Expr) (at : ℕ) → is_part (mark_at tokens at) ≡ false → part tokens room inner place a at (Read (Last a) at)
  part_none place a at e = looks refl (part_none_by place a (mark_at tokens at) at _ e refl)

  super_none_by : (place : Place) (k : Option Mark) (at : ℕ) (o : Outcome Expr) → k ≢ Some m.LParen → k ≢ Some m.Dot → refuse tokens Other at o → super_by tokens room inner place k at o
  super_none_by place (Some m.LParen) at o x y h = absurd (x refl)
  super_none_by place (Some m.Dot) at o x y h = absurd (y refl)
  super_none_by place _ at o x y h = h

  pub super_none : (place : Place) (at : ℕ) (o : Outcome Expr) → mark_at tokens at ≢ Some m.LParen → mark_at tokens at ≢ Some m.Dot → refuse tokens Other at o
      → Look (mark_at tokens) (super_by tokens room inner place) at o
  super_none place at o x y h = looks refl (super_none_by place (mark_at tokens at) at o x y h)

  -- a node path that is no string
  abbrev pub node_names : Place → Reading Expr
  node_names place = OneOf tokens plain_name Node >>= (λ first. Loop (step tokens room inner) (first ∷ []) >>= (λ names. give (e.NodePath place names)))

  node_none_by : (place : Place) (k : Kind) (at : ℕ) (o : Outcome Expr) → ((text : List ℕ) → k ≢ Text text) → node_names place at o → node_by tokens room inner place k at o
  node_none_by place (Text text) at o x h = absurd (x text refl)
  node_none_by place _ at o x h = h

  pub node_none : (place : Place) (at : ℕ) (o : Outcome Expr) → ((text : List ℕ) → kind_at tokens at ≢ Text text) → node_names place at o → Look (kind_at tokens) (node_by tokens room inner place) at o
  node_none place at o x h = looks refl (node_none_by place (kind_at tokens at) at o x h)

  -- `is` without `not`
  abbrev pub is_type : Place → Expr → Reading (Turn Expr)
  is_type place a = type_name tokens Other >>= (λ t. give (On (e.Is place a t)))

  kind_test_none_by : (place : Place) (a : Expr) (k : Option Mark) (at : ℕ) (o : Outcome (Turn Expr)) → k ≢ Some m.Not → is_type place a at o → kind_test_by tokens room inner place a k at o
  kind_test_none_by place a (Some m.Not) at o x h = absurd (x refl)
  kind_test_none_by place a _ at o x h = h

  pub kind_test_none : (place : Place) (a : Expr) (at : ℕ) (o : Outcome (Turn Expr)) → mark_at tokens at ≢ Some m.Not → is_type place a at o → Look (mark_at tokens) (kind_test_by tokens room inner place a) at o
  kind_test_none place a at o x h = looks refl (kind_test_none_by place a (mark_at tokens at) at o x h)

  test_none_by : (place : Place) (a : Expr) (k : Option Mark) (at : ℕ) (o : Outcome (Turn Expr)) → k ≢ Some m.Is → o ≡ Read (Last a) at → test_by tokens room inner place a k at o
  test_none_by place a (Some m.Is) at o e h = absurd (e refl)
  test_none_by place a _ at o e h = h

  pub test_none : (place : Place) (a : Expr) (at : ℕ) → mark_at tokens at ≢ Some m.Is → test tokens room inner place a at (Read (Last a) at)
  test_none place a at e = looks refl (test_none_by place a (mark_at tokens at) at _ e refl)

  ternary_none_by : (place : Place) (a : Expr) (k : Option Mark) (at : ℕ) (o : Outcome Expr) → k ≢ Some m.If → o ≡ Read a at → ternary_by tokens room inner place a k at o
  ternary_none_by place a (Some m.If) at o e h = absurd (e refl)
  ternary_none_by place a _ at o e h = h

  pub ternary_none : (place : Place) (a : Expr) (at : ℕ) → mark_at tokens at ≢ Some m.If → Look (mark_at tokens) (ternary_by tokens room inner place a) at (Read a at)
  ternary_none place a at e = looks refl (ternary_none_by place a (mark_at tokens at) at _ e refl)

  cast_none_by : (place : Place) (a : Expr) (k : Option Mark) (at : ℕ) (o : Outcome (Turn Expr)) → k ≢ Some m.As → o ≡ Read (Last a) at → cast_by tokens room inner place a k at o
  cast_none_by place a (Some m.As) at o e h = absurd (e refl)
  cast_none_by place a _ at o e h = h

  pub cast_none : (place : Place) (a : Expr) (at : ℕ) → mark_at tokens at ≢ Some m.As → Look (mark_at tokens) (cast_by tokens room inner place a) at (Read (Last a) at)
  cast_none place a at e = looks refl (cast_none_by place a (mark_at tokens at) at _ e refl)

  -- ---- the levels

  pub level_zero : (at : ℕ) (o : Outcome Expr) → prefix tokens room inner at o → level tokens room inner zero at o
  unfolding level
  level_zero at o h = h

  pub level_zero_is : (at : ℕ) (o : Outcome Expr) → level tokens room inner zero at o → prefix tokens room inner at o
  unfolding level
  level_zero_is at o h = h

  pub level_suc : (n : ℕ) (at : ℕ) (o : Outcome Expr)
      → either (n == 8) (negation tokens room inner (level tokens room inner n)) (binary tokens room inner (suc n) (level tokens room inner n)) at o → level tokens room inner (suc n) at o
  unfolding level
  level_suc n at o h = h

  pub level_suc_is : (n : ℕ) (at : ℕ) (o : Outcome Expr) → level tokens room inner (suc n) at o
      → either (n == 8) (negation tokens room inner (level tokens room inner n)) (binary tokens room inner (suc n) (level tokens room inner n)) at o
  unfolding level
  level_suc_is n at o h = h

  pub form_is : (n : ℕ) (at : ℕ) (o : Outcome Expr) → either (n == AS) (cast tokens room inner) (either (n == TERNARY) (ternary tokens room inner) (level tokens room inner n)) at o → form tokens room inner n at o
  unfolding form
  form_is n at o h = h

  pub form_gives : (n : ℕ) (at : ℕ) (o : Outcome Expr) → form tokens room inner n at o → either (n == AS) (cast tokens room inner) (either (n == TERNARY) (ternary tokens room inner) (level tokens room inner n)) at o
  unfolding form
  form_gives n at o h = h

module _ (tokens : List Token) where
  -- an expression, where there is room for a level
  pub expression_is : (room n : ℕ) (at : ℕ) (o : Outcome Expr) → form tokens (suc room) (deeper tokens room) n at o → expression tokens (suc room) n at o
  unfolding deeper
  expression_is room n at o h = h

  pub expression_gives : (room n : ℕ) (at : ℕ) (o : Outcome Expr) → expression tokens (suc room) n at o → form tokens (suc room) (deeper tokens room) n at o
  unfolding deeper
  expression_gives room n at o h = h

  -- and where there is none
  pub expression_full : (n : ℕ) (at : ℕ) (o : Outcome Expr) → full tokens n at o → expression tokens zero n at o
  unfolding deeper
  expression_full n at o h = h

  same_room : (r s n at : ℕ) (o : Outcome Expr) → r ≡ s → expression tokens r n at o → expression tokens s n at o
  same_room r s n at o e h = let P : ℕ → Type 0 = λ r. expression tokens r n at o in subst P e h

  -- a part of several forms is an expression with as many levels fewer to go
  pub deeper_is : (room k n at : ℕ) (o : Outcome Expr) → expression tokens (room - k) n at o → deeper tokens room k n at o
  unfolding deeper
  deeper_is zero zero n at o h = h
  deeper_is zero (suc k) n at o h = same_room (0 - suc k) 0 n at o (omega arith) h
  deeper_is (suc room) zero n at o h = same_room (suc room - 0) (suc room) n at o (omega arith) h
  deeper_is (suc room) (suc k) n at o h = deeper_is room k n at o (same_room (suc room - suc k) (room - k) n at o (omega arith) h)

  pub deeper_gives : (room k n at : ℕ) (o : Outcome Expr) → deeper tokens room k n at o → expression tokens (room - k) n at o
  unfolding deeper
  deeper_gives zero zero n at o h = h
  deeper_gives zero (suc k) n at o h = same_room 0 (0 - suc k) n at o (omega arith) h
  deeper_gives (suc room) zero n at o h = same_room (suc room) (suc room - 0) n at o (omega arith) h
  deeper_gives (suc room) (suc k) n at o h = same_room (room - k) (suc room - suc k) n at o (omega arith) (deeper_gives room k n at o h)
