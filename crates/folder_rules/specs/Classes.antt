-- The classes of a file, in the order of the text: the file's own, and each inner class before those in it.
use Rattle.std.specs.Prelude.{ℕ, suc, ◌+◌, Bool, false, ◌&&◌, ◌==◌, if◌then◌else◌, List, [], ◌∷◌, ◌++◌, length, map, bytes_eq, Option, Some, None}
use Rattle.gd_syntax.specs.declared.tree.expr.Expr.{Expr}
use Rattle.gd_syntax.specs.declared.tree.expr.Expr.TheOpen.{Expr-F}
use Rattle.gd_syntax.specs.declared.tree.expr.Expr.TheFolds.{fold-Expr}
use Rattle.gd_syntax.specs.declared.tree.member.Base.{Base}
use Rattle.gd_syntax.specs.declared.tree.member.Class.{Class}
use Rattle.gd_syntax.specs.declared.tree.member.Head.{Head}
use Rattle.gd_syntax.specs.declared.tree.member.Head.TheVariants as head
use Rattle.gd_syntax.specs.declared.tree.member.Member.{Member, out-Member}
use Rattle.gd_syntax.specs.declared.tree.member.Member.TheOpen.{Member-F, Class-F}
use Rattle.gd_syntax.specs.declared.tree.member.Member.TheFolds.{fold-Member}
use Rattle.gd_syntax.specs.declared.tree.member.Member.TheVariants as tree
use Rattle.gd_syntax.specs.declared.tree.member.Script.{Script}
use Rattle.gd_syntax.specs.declared.tree.type_name.Identifier.{Identifier}
use Rattle.gd_syntax.specs.declared.tree.type_name.PathText.{PathText}

-- A class: the places of the classes round it, from the nearest outwards, its name, which that of a file has not, its base and
-- its members.
pub record ClassTree : Type 0 where
  pub outers : List ℕ
  pub name : Option (List ℕ)
  pub base : Option Base
  pub members : List Member

-- classes in a member, where the classes round it and the place of the first are known
abbrev pub Placed : Type 0
Placed = List ℕ → ℕ → List ClassTree

abbrev pub one_after_other : List Placed → Placed
one_after_other [] outers at = []
one_after_other (first ∷ others) outers at = first outers at ++ one_after_other others outers (at + length (first outers at))

abbrev pub no_class : Placed
no_class outers at = []

abbrev pub class_step : Class-F (Member × Placed) (Class × Placed) → Class × Placed
class_step c = (
  record { place = c.place; name = c.name; base = c.base; members = map (λ m. m.0) c.members },
  λ outers at. record { outers = outers; name = Some c.name.name; base = c.base; members = map (λ m. m.0) c.members } ∷ one_after_other (map (λ m. m.1) c.members) (at ∷ outers) (at + 1),
)

abbrev pub member_step : Member-F (Member × Placed) (Class × Placed) → Member × Placed
member_step (Member-F.Pass place) = (tree.Pass place, no_class)
member_step (Member-F.Var v) = (tree.Var v, no_class)
member_step (Member-F.Const c) = (tree.Const c, no_class)
member_step (Member-F.Enum e) = (tree.Enum e, no_class)
member_step (Member-F.Signal s) = (tree.Signal s, no_class)
member_step (Member-F.Func f) = (tree.Func f, no_class)
member_step (Member-F.Class c) = (tree.Class c.0, c.1)

unfoldable pub member_classes : Member → Member × Placed
member_classes = fold-Member (Member × Placed) (Class × Placed) member_step class_step

-- what the file extends, and the name that it registers, by its heads
abbrev pub file_base : List Head → Option Base
file_base [] = None
file_base (head.Extends place base ∷ heads) = Some base
file_base (head.ClassName place name (Some base) ∷ heads) = Some base
file_base (_ ∷ heads) = file_base heads

abbrev pub registered : List Head → Option Identifier
registered [] = None
registered (head.ClassName place name base ∷ heads) = Some name
registered (_ ∷ heads) = registered heads

unfoldable pub classes_of : Script → List ClassTree
classes_of s =
    record { outers = []; name = None; base = file_base s.heads; members = s.members }
    ∷ one_after_other (map (λ m. (member_classes m).1) s.members) (0 ∷ []) 1

-- ---- what is declared in a class

abbrev pub is_in_class : ℕ → List ℕ → Bool
is_in_class outer [] = false
is_in_class outer (nearest ∷ outers) = nearest == outer

abbrev pub is_named : List ℕ → Option (List ℕ) → Bool
is_named name None = false
is_named name (Some other) = bytes_eq other name

-- the place of the first class of this name that is declared in the class at `outer`
abbrev pub inner_from : ℕ → List ClassTree → ℕ → List ℕ → Option ℕ
inner_from at [] outer name = None
inner_from at (class ∷ classes) outer name = if is_in_class outer class.outers && is_named name class.name then Some at else inner_from (suc at) classes outer name

abbrev pub inner_class : List ClassTree → ℕ → List ℕ → Option ℕ
inner_class classes outer name = inner_from 0 classes outer name

-- the first constant of a name among the members of a class
abbrev pub constant_by : List ℕ → Member-F Member Class → Option (Option Expr)
constant_by name (Member-F.Const c) = if bytes_eq c.name.name name then Some (Some c.value) else None
constant_by name _ = None

abbrev pub constant_or : Option (Option Expr) → Option Expr → Option Expr
constant_or (Some found) others = found
constant_or None others = others

abbrev pub constant_named : List Member → List ℕ → Option Expr
constant_named [] name = None
constant_named (member ∷ members) name = constant_or (constant_by name (out-Member member)) (constant_named members name)

-- the path of an expression that is a `preload`, in parentheses or not
abbrev pub preload_step : Expr-F (Option PathText) → Option PathText
preload_step (Expr-F.Preload place path) = Some path
preload_step (Expr-F.Paren place inner) = inner
preload_step _ = None

unfoldable pub preload_of : Expr → Option PathText
preload_of = fold-Expr (Option PathText) preload_step

abbrev pub preload_in : Option Expr → Option PathText
preload_in None = None
preload_in (Some value) = preload_of value

-- the path of the first constant of a name in a class, where its value is a `preload`
abbrev pub preload_named : List Member → List ℕ → Option PathText
preload_named members name = preload_in (constant_named members name)
