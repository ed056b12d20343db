-- The operators of expressions, with their levels from tight to loose.
use Rattle.std.specs.Prelude.{ℕ, Bool, true, false, Option, Some, None}
use Rattle.gd_syntax.specs.declared.token.Mark.{Mark}
use Rattle.gd_syntax.specs.declared.token.Mark.TheVariants as m
use Rattle.gd_syntax.specs.declared.tree.expr.TreeOp.{TreeOp}
use Rattle.gd_syntax.specs.declared.tree.expr.TreeOp.TheVariants as op
use Rattle.gd_syntax.specs.declared.tree.expr.TreePrefix.{TreePrefix}
use Rattle.gd_syntax.specs.declared.tree.expr.TreePrefix.TheVariants as prefix

-- Levels 1 to 8, 10 and 11 are those of binary operators.

-- `~ + -` before an operand
abbrev pub PREFIX : ℕ
PREFIX = 0

-- `not` and `!` before an operand
abbrev pub NOT : ℕ
NOT = 9

-- `or`, the loosest binary operator
abbrev pub OR : ℕ
OR = 11

abbrev pub TERNARY : ℕ
TERNARY = 12

-- `as`, the loosest level
abbrev pub AS : ℕ
AS = 13

-- the level of the binary operator that begins with this token, or 0
abbrev pub level_of : Option Mark → ℕ
level_of (Some m.Star) = 1
level_of (Some m.Slash) = 1
level_of (Some m.Percent) = 1
level_of (Some m.Plus) = 2
level_of (Some m.Minus) = 2
level_of (Some m.ShiftLeft) = 3
level_of (Some m.ShiftRight) = 3
level_of (Some m.Amp) = 4
level_of (Some m.Caret) = 5
level_of (Some m.Bar) = 6
level_of (Some m.Equal) = 7
level_of (Some m.Differ) = 7
level_of (Some m.Less) = 7
level_of (Some m.Greater) = 7
level_of (Some m.LessEqual) = 7
level_of (Some m.GreaterEqual) = 7
level_of (Some m.In) = 8
level_of (Some m.Not) = 8
level_of (Some m.And) = 10
level_of (Some m.AmpAmp) = 10
level_of (Some m.Or) = 11
level_of (Some m.BarBar) = 11
level_of _ = 0

-- the binary operator of one token
abbrev pub operator_of : Option Mark → Option TreeOp
operator_of (Some m.Star) = Some op.Mul
operator_of (Some m.Slash) = Some op.Div
operator_of (Some m.Percent) = Some op.Rem
operator_of (Some m.Plus) = Some op.Add
operator_of (Some m.Minus) = Some op.Sub
operator_of (Some m.ShiftLeft) = Some op.Shl
operator_of (Some m.ShiftRight) = Some op.Shr
operator_of (Some m.Amp) = Some op.BitAnd
operator_of (Some m.Caret) = Some op.BitXor
operator_of (Some m.Bar) = Some op.BitOr
operator_of (Some m.Equal) = Some op.Eq
operator_of (Some m.Differ) = Some op.Ne
operator_of (Some m.Less) = Some op.Lt
operator_of (Some m.Greater) = Some op.Gt
operator_of (Some m.LessEqual) = Some op.Le
operator_of (Some m.GreaterEqual) = Some op.Ge
operator_of (Some m.In) = Some op.Within
operator_of (Some m.And) = Some op.And
operator_of (Some m.AmpAmp) = Some op.And
operator_of (Some m.Or) = Some op.Or
operator_of (Some m.BarBar) = Some op.Or
operator_of _ = None

abbrev pub prefix_of : Option Mark → Option TreePrefix
prefix_of (Some m.Tilde) = Some prefix.Inv
prefix_of (Some m.Plus) = Some prefix.Plus
prefix_of (Some m.Minus) = Some prefix.Neg
prefix_of _ = None

abbrev pub is_not : Option Mark → Bool
is_not (Some m.Not) = true
is_not (Some m.Bang) = true
is_not _ = false
