-- Short names for worked rows: trees of small files, and folders of them.
use Rattle.std.specs.Prelude.{ℕ, zero, suc, List, [], ◌∷◌, Option, None, Result, Ok, Err}
use Rattle.gd_syntax.specs.declared.fault.FaultKind.{FaultKind}
use Rattle.gd_syntax.specs.declared.fault.FaultKind.TheVariants.{Unreadable}
use Rattle.gd_syntax.specs.declared.fault.LoadFault.{LoadFault}
use Rattle.gd_syntax.specs.declared.fault.Place.{Place}
use Rattle.gd_syntax.specs.declared.tree.expr.Expr.{Expr}
use Rattle.gd_syntax.specs.declared.tree.expr.Expr.TheVariants as expr
use Rattle.gd_syntax.specs.declared.tree.member.Base.{Base as BaseTree}
use Rattle.gd_syntax.specs.declared.tree.member.BaseRoot.TheVariants as root
use Rattle.gd_syntax.specs.declared.tree.member.Head.{Head}
use Rattle.gd_syntax.specs.declared.tree.member.Head.TheVariants as head
use Rattle.gd_syntax.specs.declared.tree.member.Member.{Member}
use Rattle.gd_syntax.specs.declared.tree.member.Member.TheVariants as tree
use Rattle.gd_syntax.specs.declared.tree.member.Script.{Script}
use Rattle.gd_syntax.specs.declared.tree.type_name.Identifier.{Identifier}
use Rattle.variant_values.specs.declared.classes.ClassId.{ClassId}
use Rattle.variant_values.specs.declared.classes.ClassTag.{ClassTag}
use Rattle.variant_values.specs.declared.classes.ClassTag.TheVariants as of_class
use Rattle.folder_meaning.specs.declared.facts.Content.{Content}
use Rattle.folder_meaning.specs.declared.facts.Content.TheVariants as content
use Rattle.facts.specs.Evaluation.{Ending, ends_at, evaluated}
use Rattle.folder_rules.specs.Folders.{Folder}
use Rattle.folder_rules.specs.Nodes.{Node, Base, FactOf, Fault}
use Rattle.folder_rules.specs.Rules.{rules_of}

abbrev pub at : ℕ → ℕ → Place
at line column = record { line = line; column = column }

abbrev pub identifier : Place → List ℕ → Identifier
identifier place name = record { place = place; name = name }

-- `"path"` and `Name` with names after dots
abbrev pub of_path : Place → List ℕ → List (List ℕ) → BaseTree
of_path place path names = record { place = place; root = root.Path path; names = names }

abbrev pub of_name : Place → List ℕ → List (List ℕ) → BaseTree
of_name place name names = record { place = place; root = root.Name name; names = names }

abbrev pub extends : ℕ → BaseTree → Head
extends line base = head.Extends (at line 1) base

-- `class_name Name` on line 1
abbrev pub registers : List ℕ → Head
registers name = head.ClassName (at 1 1) (identifier (at 1 12) name) None

abbrev pub class : Place → List ℕ → Option BaseTree → List Member → Member
class place name base members = tree.Class (record { place = place; name = identifier place name; base = base; members = members })

abbrev pub constant : ℕ → List ℕ → Expr → Member
constant line name value = tree.Const (record { place = at line 1; name = identifier (at line 7) name; type_name = None; value = value })

-- `preload("path")`, where the path stands at this place
abbrev pub preload : Place → List ℕ → Expr
preload place path = expr.Preload place (record { place = place; text = path })

abbrev pub file : List Head → List Member → Script
file heads members = record { place = at 1 1; heads = heads; members = members }

-- what a number gives that no file has
abbrev pub absent : Result Content LoadFault
absent = Err (record { kind = Unreadable; place = at 0 0 })

abbrev pub look_in : List Script → ℕ → Result Content LoadFault
look_in [] number = absent
look_in (s ∷ scripts) zero = Ok (content.Script s)
look_in (s ∷ scripts) (suc number) = look_in scripts number

-- files by path, global names, and what the files are read as
abbrev pub folder : List (List ℕ) → List (List ℕ × ℕ) → List Script → Folder
folder paths names scripts = record { paths = paths; globals = record { classes = names; autoloads = [] }; look = look_in scripts }

abbrev pub class_id : ℕ → ℕ → ClassId
class_id number index = record { file = number; index = index }

abbrev pub script : ℕ → ℕ → ClassTag
script number index = of_class.Script (class_id number index)

-- the ancestors of a class that extends RefCounted
abbrev pub counted : List ClassTag
counted = of_class.RefCounted ∷ of_class.Object ∷ []

-- the ancestors of a class, and what its rule comes to, within 12 steps
abbrev pub ancestors : Folder → ℕ → ℕ → Option (List ClassTag)
ancestors f number index = evaluated (rules_of f) 12 (Base (class_id number index))

abbrev pub comes_to : Folder → (n : Node) → Ending FactOf Fault (FactOf n)
comes_to f n = ends_at (rules_of f) 12 n

abbrev pub fault_at : ℕ → FaultKind → Place → Fault
fault_at stage kind place = record { stage = stage; fault = record { kind = kind; place = place } }
