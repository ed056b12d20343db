-- The operators of values that those of trees are.
use Rattle.gd_syntax.specs.declared.tree.expr.TreeOp.{TreeOp}
use Rattle.gd_syntax.specs.declared.tree.expr.TreeOp.TheVariants as tree
use Rattle.gd_syntax.specs.declared.tree.expr.TreePrefix.{TreePrefix}
use Rattle.gd_syntax.specs.declared.tree.expr.TreePrefix.TheVariants as prefix
use Rattle.variant_values.specs.declared.operators.BinaryOp.{BinaryOp}
use Rattle.variant_values.specs.declared.operators.BinaryOp.TheVariants as value
use Rattle.variant_values.specs.declared.operators.UnaryOp.{UnaryOp}
use Rattle.variant_values.specs.declared.operators.UnaryOp.TheVariants as unary

abbrev pub value_op : TreeOp → BinaryOp
value_op tree.Add = value.Add
value_op tree.Sub = value.Sub
value_op tree.Mul = value.Mul
value_op tree.Div = value.Div
value_op tree.Rem = value.Rem
value_op tree.Shl = value.Shl
value_op tree.Shr = value.Shr
value_op tree.BitAnd = value.BitAnd
value_op tree.BitXor = value.BitXor
value_op tree.BitOr = value.BitOr
value_op tree.Eq = value.Eq
value_op tree.Ne = value.Ne
value_op tree.Lt = value.Lt
value_op tree.Gt = value.Gt
value_op tree.Le = value.Le
value_op tree.Ge = value.Ge
value_op tree.Within = value.Within
value_op tree.And = value.And
value_op tree.Or = value.Or

abbrev pub value_prefix : TreePrefix → UnaryOp
value_prefix prefix.Inv = unary.Inv
value_prefix prefix.Plus = unary.Plus
value_prefix prefix.Neg = unary.Neg
