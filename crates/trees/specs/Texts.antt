-- What is printed of places, faults and operators.
use Rattle.std.specs.Prelude.{ℕ, List, ◌++◌, codes}
use Rattle.std.specs.Fmt.{decimal}
use Rattle.gd_syntax.specs.declared.fault.LoadFault.{LoadFault}
use Rattle.gd_syntax.specs.declared.fault.Place.{Place}
use Rattle.gd_syntax.specs.Faults.{kind_text}
use Rattle.gd_syntax.specs.declared.tree.expr.TreeOp.{TreeOp}
use Rattle.gd_syntax.specs.declared.tree.expr.TreeOp.TheVariants as binary
use Rattle.gd_syntax.specs.declared.tree.expr.TreePrefix.{TreePrefix}
use Rattle.gd_syntax.specs.declared.tree.expr.TreePrefix.TheVariants as prefix
use Rattle.gd_syntax.specs.declared.tree.statement.AssignOp.{AssignOp}
use Rattle.gd_syntax.specs.declared.tree.statement.AssignOp.TheVariants as assign

abbrev pub place_text : Place → List ℕ
place_text place = decimal place.line ++ codes ":" ++ decimal place.column

abbrev pub fault_text : LoadFault → List ℕ
fault_text fault = place_text fault.place ++ codes " " ++ kind_text fault.kind

-- a binary operator between its operands
abbrev pub binary_text : TreeOp → List ℕ
binary_text binary.Add = codes " + "
binary_text binary.Sub = codes " - "
binary_text binary.Mul = codes " * "
binary_text binary.Div = codes " / "
binary_text binary.Rem = codes " % "
binary_text binary.Shl = codes " << "
binary_text binary.Shr = codes " >> "
binary_text binary.BitAnd = codes " & "
binary_text binary.BitXor = codes " ^ "
binary_text binary.BitOr = codes " | "
binary_text binary.Eq = codes " == "
binary_text binary.Ne = codes " != "
binary_text binary.Lt = codes " < "
binary_text binary.Gt = codes " > "
binary_text binary.Le = codes " <= "
binary_text binary.Ge = codes " >= "
binary_text binary.Within = codes " in "
binary_text binary.And = codes " and "
binary_text binary.Or = codes " or "

-- an operator before its operand
abbrev pub prefix_text : TreePrefix → List ℕ
prefix_text prefix.Inv = codes "~"
prefix_text prefix.Plus = codes "+"
prefix_text prefix.Neg = codes "-"

-- an assignment between its target and its value
abbrev pub assign_text : AssignOp → List ℕ
assign_text assign.Set = codes " = "
assign_text assign.Add = codes " += "
assign_text assign.Sub = codes " -= "
assign_text assign.Mul = codes " *= "
assign_text assign.Div = codes " /= "
assign_text assign.Rem = codes " %= "
assign_text assign.BitAnd = codes " &= "
assign_text assign.BitOr = codes " |= "
assign_text assign.BitXor = codes " ^= "
assign_text assign.Shl = codes " <<= "
assign_text assign.Shr = codes " >>= "
