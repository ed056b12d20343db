-- The machine's script of a file that is taken, by its tree: the lines of its one function, each call of `print` with its
-- arguments. Whatever else a tree has is left out, and stands for 0 in a chain of operators.
use Rattle.std.specs.Prelude.{ℕ, ℤ, pos, Bool, true, false, List, [], ◌∷◌, ◌++◌, map, codes, bytes_eq, encode_utf8_all, Option, Some, None}
use Rattle.std.specs.List.{flat_map}
use Rattle.gd_syntax.specs.declared.first.SumOp.{SumOp}
use Rattle.gd_syntax.specs.declared.first.SumOp.TheVariants as sign
use Rattle.gd_syntax.specs.declared.fault.Place.{Place}
use Rattle.gd_syntax.specs.declared.tree.expr.Expr.{Expr, out-Expr}
use Rattle.gd_syntax.specs.declared.tree.expr.Expr.TheOpen.{Expr-F}
use Rattle.gd_syntax.specs.declared.tree.expr.Expr.TheFolds.{fold-Expr}
use Rattle.gd_syntax.specs.declared.tree.expr.Literal.{Literal}
use Rattle.gd_syntax.specs.declared.tree.expr.Literal.TheVariants as literal
use Rattle.gd_syntax.specs.declared.tree.expr.TreeOp.{TreeOp}
use Rattle.gd_syntax.specs.declared.tree.expr.TreeOp.TheVariants as op
use Rattle.gd_syntax.specs.declared.tree.member.Member.{Member, out-Member}
use Rattle.gd_syntax.specs.declared.tree.member.Member.TheOpen.{Member-F}
use Rattle.gd_syntax.specs.declared.tree.member.Script.{Script as Tree}
use Rattle.gd_syntax.specs.declared.tree.statement.Simple.{Simple}
use Rattle.gd_syntax.specs.declared.tree.statement.Simple.TheVariants as simply
use Rattle.gd_syntax.specs.declared.tree.statement.Stmt.{Stmt, out-Stmt}
use Rattle.gd_syntax.specs.declared.tree.statement.Stmt.TheOpen.{Stmt-F}
use Rattle.gd_syntax.specs.FirstTree.{Product, Sum, Item, text_item, sum_item, Print, Script}

-- An expression as a whole number, as factors from left to right, and as terms from left to right.
pub record Chain : Type 0 where
  pub number : ℤ
  pub product : Product
  pub sum : Sum

abbrev pub one_number : ℤ → Product
one_number n = record { first = n; others = [] }

abbrev pub one_product : Product → Sum
one_product p = record { first = p; others = [] }

abbrev pub number_chain : ℤ → Chain
number_chain n = record { number = n; product = one_number n; sum = one_product (one_number n) }

abbrev pub literal_number : Literal → ℤ
literal_number (literal.Int n) = n
literal_number _ = pos 0

abbrev pub times : Product → ℤ → Product
times p n = record { first = p.first; others = p.others ++ n ∷ [] }

abbrev pub with_term : Sum → SumOp → Product → Sum
with_term sum op p = record { first = sum.first; others = sum.others ++ (op, p) ∷ [] }

-- the operators between terms
abbrev pub sign_of : TreeOp → Option SumOp
sign_of op.Add = Some sign.Add
sign_of op.Sub = Some sign.Sub
sign_of _ = None

abbrev pub product_by : TreeOp → Product → ℤ → Product
product_by op.Mul p n = times p n
product_by _ p n = one_number (pos 0)

abbrev pub sum_by_sign : Option SumOp → TreeOp → Chain → Chain → Sum
sum_by_sign (Some sign) op a b = with_term a.sum sign b.product
sum_by_sign None op a b = one_product (product_by op a.product b.number)

abbrev pub binary_chain : TreeOp → Chain → Chain → Chain
binary_chain op a b = record { number = pos 0; product = product_by op a.product b.number; sum = sum_by_sign (sign_of op) op a b }

abbrev pub chain_step : Expr-F Chain → Chain
chain_step (Expr-F.Literal place value) = number_chain (literal_number value)
chain_step (Expr-F.Binary place op a b) = binary_chain op a b
chain_step _ = number_chain (pos 0)

unfoldable pub chain_of : Expr → Chain
chain_of = fold-Expr Chain chain_step

-- an argument
abbrev pub item_by : Expr → Expr-F Expr → Item
item_by x (Expr-F.Literal place (literal.Text text)) = text_item (encode_utf8_all text)
item_by x _ = sum_item (chain_of x).sum

abbrev pub item_of : Expr → Item
item_of x = item_by x (out-Expr x)

-- what is called, where it has a name
abbrev pub is_print_by : Expr-F Expr → Bool
is_print_by (Expr-F.Name place name) = bytes_eq name (codes "print")
is_print_by _ = false

abbrev pub is_print : Expr → Bool
is_print x = is_print_by (out-Expr x)

abbrev pub call_lines : Place → Bool → List Expr → List Print
call_lines place true args = record { line = place.line; items = map item_of args } ∷ []
call_lines place false args = []

abbrev pub expression_lines_by : Place → Expr-F Expr → List Print
expression_lines_by place (Expr-F.Call at f args) = call_lines place (is_print f) args
expression_lines_by place _ = []

abbrev pub expression_lines : Place → Expr → List Print
expression_lines place x = expression_lines_by place (out-Expr x)

abbrev pub simple_lines : Simple → List Print
simple_lines (simply.Expr place x) = expression_lines place x
simple_lines _ = []

abbrev pub statement_lines_by : {A B C : Type 0} → Stmt-F A B C → List Print
statement_lines_by (Stmt-F.Line place all) = flat_map simple_lines all
statement_lines_by _ = []

abbrev pub statement_lines : Stmt → List Print
statement_lines x = statement_lines_by (out-Stmt x)

abbrev pub member_lines_by : {A B : Type 0} → Member-F A B → List Print
member_lines_by (Member-F.Func f) = flat_map statement_lines f.body
member_lines_by _ = []

abbrev pub member_lines : Member → List Print
member_lines x = member_lines_by (out-Member x)

abbrev pub script_of_tree : Tree → Script
script_of_tree tree = flat_map member_lines tree.members
