-- The operators of values that the operators of trees mean: those with the same spelling.
use Rattle.gd_syntax.specs.declared.tree.expr.TreeOp.{TreeOp}
use Rattle.gd_syntax.specs.declared.tree.expr.TreeOp.TheVariants as t
use Rattle.gd_syntax.specs.declared.tree.expr.TreePrefix.{TreePrefix}
use Rattle.gd_syntax.specs.declared.tree.expr.TreePrefix.TheVariants as p
use Rattle.variant_values.specs.declared.operators.BinaryOp.{BinaryOp}
use Rattle.variant_values.specs.declared.operators.BinaryOp.TheVariants as v
use Rattle.variant_values.specs.declared.operators.UnaryOp.{UnaryOp}
use Rattle.variant_values.specs.declared.operators.UnaryOp.TheVariants as u

abbrev pub value_op : TreeOp → BinaryOp
value_op t.Add = v.Add
value_op t.Sub = v.Sub
value_op t.Mul = v.Mul
value_op t.Div = v.Div
value_op t.Rem = v.Rem
value_op t.Shl = v.Shl
value_op t.Shr = v.Shr
value_op t.BitAnd = v.BitAnd
value_op t.BitXor = v.BitXor
value_op t.BitOr = v.BitOr
value_op t.Eq = v.Eq
value_op t.Ne = v.Ne
value_op t.Lt = v.Lt
value_op t.Gt = v.Gt
value_op t.Le = v.Le
value_op t.Ge = v.Ge
value_op t.Within = v.Within
value_op t.And = v.And
value_op t.Or = v.Or

abbrev pub value_prefix : TreePrefix → UnaryOp
value_prefix p.Inv = u.Inv
value_prefix p.Plus = u.Plus
value_prefix p.Neg = u.Neg
