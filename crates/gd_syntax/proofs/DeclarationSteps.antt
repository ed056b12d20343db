-- The alternatives of declarations where the next token begins no other.
use Rattle.std.proofs.Common.{◌≢◌, ℕ, Bool, List, [], Option, Some, None, refl}
use Rattle.gd_syntax.specs.declared.token.Token.{Token}
use Rattle.gd_syntax.specs.declared.token.Mark.{Mark}
use Rattle.gd_syntax.specs.declared.token.Mark.TheVariants as m
use Rattle.gd_syntax.specs.declared.tree.expr.Expr.{Expr}
use Rattle.gd_syntax.specs.declared.tree.member.Annotation.{Annotation}
use Rattle.gd_syntax.specs.declared.tree.member.Var.{Var}
use Rattle.gd_syntax.specs.declared.tree.type_name.Declared.{Declared}
use Rattle.gd_syntax.specs.declared.tree.type_name.Declared.TheVariants.{Typed}
use Rattle.gd_syntax.specs.declared.tree.type_name.TypeName.{TypeName}
use Rattle.gd_syntax.specs.declared.stops.Sought.{Sought}
use Rattle.gd_syntax.specs.Reading.{Outcome, ◌>>=◌, give, Look, looks, Turn, Last}
use Rattle.gd_syntax.specs.TokenReading.{mark_at}
use Rattle.gd_syntax.specs.DeclarationGrammar.{type_by, value_by, declared_by, args_by, line_end_by, annots_by, var_end_by}

module _ (tokens : List Token) where
  type_none_by : (sought : Sought) (k : Option Mark) (at : ℕ) (o : Outcome (Option TypeName)) → k ≢ Some m.Colon → (give None) at o → type_by tokens sought k at o
  type_none_by sought (Some m.Colon) at o x h = absurd (x refl)
  type_none_by sought _ at o x h = h

  pub type_none : (sought : Sought) (at : ℕ) (o : Outcome (Option TypeName)) → mark_at tokens at ≢ Some m.Colon → (give None) at o → Look (mark_at tokens) (type_by tokens sought) at o
  type_none sought at o x h = looks refl (type_none_by sought (mark_at tokens at) at o x h)

  value_none_by : (k : Option Mark) (at : ℕ) (o : Outcome (Option Expr)) → k ≢ Some m.Assign → (give None) at o → value_by tokens k at o
  value_none_by (Some m.Assign) at o x h = absurd (x refl)
  value_none_by _ at o x h = h

  pub value_none : (at : ℕ) (o : Outcome (Option Expr)) → mark_at tokens at ≢ Some m.Assign → (give None) at o → Look (mark_at tokens) (value_by tokens) at o
  value_none at o x h = looks refl (value_none_by (mark_at tokens at) at o x h)

  declared_typed_by : (sought : Sought) (k : Option Mark) (at : ℕ) (o : Outcome Declared) → k ≢ Some m.ColonAssign → (do t ← Look (mark_at tokens) (type_by tokens sought); x ← Look (mark_at tokens) (value_by tokens); give (Typed t x)) at o → declared_by tokens sought k at o
  declared_typed_by sought (Some m.ColonAssign) at o x h = absurd (x refl)
  declared_typed_by sought _ at o x h = h

  pub declared_typed : (sought : Sought) (at : ℕ) (o : Outcome Declared) → mark_at tokens at ≢ Some m.ColonAssign → (do t ← Look (mark_at tokens) (type_by tokens sought); x ← Look (mark_at tokens) (value_by tokens); give (Typed t x)) at o → Look (mark_at tokens) (declared_by tokens sought) at o
  declared_typed sought at o x h = looks refl (declared_typed_by sought (mark_at tokens at) at o x h)

  args_none_by : (k : Option Mark) (at : ℕ) (o : Outcome (List Expr)) → k ≢ Some m.LParen → (give []) at o → args_by tokens k at o
  args_none_by (Some m.LParen) at o x h = absurd (x refl)
  args_none_by _ at o x h = h

  pub args_none : (at : ℕ) (o : Outcome (List Expr)) → mark_at tokens at ≢ Some m.LParen → (give []) at o → Look (mark_at tokens) (args_by tokens) at o
  args_none at o x h = looks refl (args_none_by (mark_at tokens at) at o x h)

  line_end_none_by : (k : Option Mark) (at : ℕ) (o : Outcome (Unit {0})) → k ≢ Some m.Newline → (give tt) at o → line_end_by tokens k at o
  line_end_none_by (Some m.Newline) at o x h = absurd (x refl)
  line_end_none_by _ at o x h = h

  pub line_end_none : (at : ℕ) (o : Outcome (Unit {0})) → mark_at tokens at ≢ Some m.Newline → (give tt) at o → Look (mark_at tokens) (line_end_by tokens) at o
  line_end_none at o x h = looks refl (line_end_none_by (mark_at tokens at) at o x h)

  annots_none_by : (may : List ℕ → Bool) (sofar : List Annotation) (k : Option Mark) (at : ℕ) (o : Outcome (Turn (List Annotation))) → k ≢ Some m.At → (give (Last sofar)) at o → annots_by tokens may sofar k at o
  annots_none_by may sofar (Some m.At) at o x h = absurd (x refl)
  annots_none_by may sofar _ at o x h = h

  pub annots_none : (may : List ℕ → Bool) (sofar : List Annotation) (at : ℕ) (o : Outcome (Turn (List Annotation))) → mark_at tokens at ≢ Some m.At → (give (Last sofar)) at o → Look (mark_at tokens) (annots_by tokens may sofar) at o
  annots_none may sofar at o x h = looks refl (annots_none_by may sofar (mark_at tokens at) at o x h)

  var_ended_by : (tree : Var) (k : Option Mark) (at : ℕ) (o : Outcome Var) → k ≢ Some m.Colon → (give tree) at o → var_end_by tokens tree k at o
  var_ended_by tree (Some m.Colon) at o x h = absurd (x refl)
  var_ended_by tree _ at o x h = h

  pub var_ended : (tree : Var) (at : ℕ) (o : Outcome Var) → mark_at tokens at ≢ Some m.Colon → (give tree) at o → Look (mark_at tokens) (var_end_by tokens tree) at o
  var_ended tree at o x h = looks refl (var_ended_by tree (mark_at tokens at) at o x h)
