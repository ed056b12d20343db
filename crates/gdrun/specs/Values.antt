-- The value of a chain of operators over whole numbers, by the tree.
use Rattle.std.specs.Prelude.{ℤ, pos, ◌+ℤ◌, ◌-ℤ◌, ◌*ℤ◌}
use Rattle.std.specs.Int.{int_wrap, w64}
use Rattle.gd_syntax.specs.declared.fault.Place.{Place}
use Rattle.gd_syntax.specs.declared.tree.expr.Expr.{Expr}
use Rattle.gd_syntax.specs.declared.tree.expr.Expr.TheVariants as e
use Rattle.gd_syntax.specs.declared.tree.expr.Expr.TheOpen.{Expr-F}
use Rattle.gd_syntax.specs.declared.tree.expr.Expr.TheFolds.{fold-Expr}
use Rattle.gd_syntax.specs.declared.tree.expr.Literal.{Literal}
use Rattle.gd_syntax.specs.declared.tree.expr.Literal.TheVariants as literal
use Rattle.gd_syntax.specs.declared.tree.expr.TreeOp.{TreeOp}
use Rattle.gd_syntax.specs.declared.tree.expr.TreeOp.TheVariants as op

-- each operator wraps around at 64 bits
abbrev pub operated : TreeOp → ℤ → ℤ → ℤ
operated op.Add a b = int_wrap w64 (a +ℤ b)
operated op.Sub a b = int_wrap w64 (a -ℤ b)
operated op.Mul a b = int_wrap w64 (a *ℤ b)
operated _ a b = pos 0

abbrev pub literal_value : Literal → ℤ
literal_value (literal.Int n) = n
literal_value _ = pos 0

abbrev pub value_step : Expr-F ℤ → ℤ
value_step (Expr-F.Literal place value) = literal_value value
value_step (Expr-F.Binary place op a b) = operated op a b
value_step _ = pos 0

unfoldable pub value_of : Expr → ℤ
value_of = fold-Expr ℤ value_step

-- whole numbers that are multiplied, from left to right
pub data IsProduct : Expr → Type 0 where
  number : (place : Place) (n : ℤ) → IsProduct (e.Literal place (literal.Int n))
  times : (place at : Place) (a : Expr) (n : ℤ) → IsProduct a → IsProduct (e.Binary place op.Mul a (e.Literal at (literal.Int n)))

-- products that are added and subtracted, from left to right
pub data IsChain : Expr → Type 0 where
  product : (a : Expr) → IsProduct a → IsChain a
  plus : (place : Place) (a b : Expr) → IsChain a → IsProduct b → IsChain (e.Binary place op.Add a b)
  minus : (place : Place) (a b : Expr) → IsChain a → IsProduct b → IsChain (e.Binary place op.Sub a b)
