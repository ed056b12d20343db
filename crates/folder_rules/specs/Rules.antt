-- What the fact of each node of a folder hangs on.
use Rattle.std.specs.Prelude.{ℕ, suc, Bool, ◌||◌, if◌then◌else◌, List, [], ◌∷◌, ◌++◌, length, codes, bytes_eq, nat_lt, Option, Some, None, Result, Ok, Err, slice_get}
use Rattle.std.specs.List.{list_any}
use Rattle.gd_syntax.specs.declared.fault.FaultKind.TheVariants.{NoSuchFile, GlobalNameTaken, CyclicInheritance}
use Rattle.gd_syntax.specs.declared.fault.LoadFault.{LoadFault}
use Rattle.gd_syntax.specs.declared.fault.Place.{Place}
use Rattle.gd_syntax.specs.declared.tree.member.Base.{Base as BaseTree}
use Rattle.gd_syntax.specs.declared.tree.member.Class.{Class}
use Rattle.gd_syntax.specs.declared.tree.member.Member.{Member, out-Member}
use Rattle.gd_syntax.specs.declared.tree.member.Member.TheOpen.{Member-F}
use Rattle.gd_syntax.specs.declared.tree.type_name.Identifier.{Identifier}
use Rattle.gd_syntax.specs.declared.tree.type_name.PathText.{PathText}
use Rattle.folder_meaning.specs.declared.facts.Content.{Content}
use Rattle.folder_meaning.specs.declared.facts.Content.TheVariants as content
use Rattle.facts.specs.Facts.{Give, Fail, Rules}
use Rattle.folder_rules.specs.Bases.{base_rule}
use Rattle.folder_rules.specs.Classes.{ClassTree, preload_of, registered}
use Rattle.folder_rules.specs.Folders.{Folder, file_named, files_of_name}
use Rattle.folder_rules.specs.Links.{classes_in}
use Rattle.folder_rules.specs.Nodes.{Node, Tree, GlobalName, Base, Preloaded, FactOf, Fault, Ruled, fails, ◌>>=◌}

-- names that no class can have
abbrev pub type_names : List (List ℕ)
type_names =
    codes "Object" ∷ codes "RefCounted" ∷ codes "Node" ∷ codes "Variant" ∷ codes "bool" ∷ codes "int" ∷ codes "String" ∷ codes "Array"
    ∷ codes "Dictionary" ∷ codes "Callable" ∷ codes "Signal" ∷ codes "PackedScene" ∷ codes "WeakRef" ∷ codes "void" ∷ []

abbrev pub registered_in : Content → Option Identifier
registered_in (content.Script s) = registered s.heads

-- a file's text
abbrev pub tree_rule : Result Content LoadFault → Ruled Content
tree_rule (Ok found) = Give found
tree_rule (Err fault) = Fail (record { stage = 1; fault = fault })

module _ (folder : Folder) where
  -- two files have it, or it is that of a native class or a type
  abbrev pub is_taken : List ℕ → Bool
  is_taken name = nat_lt 1 (length (files_of_name folder.globals.classes name)) || list_any (λ other. bytes_eq other name) type_names

  abbrev pub name_rule : Option Identifier → Ruled (Unit {0})
  name_rule None = Give tt
  name_rule (Some name) = if is_taken name.name then fails 2 GlobalNameTaken name.place else Give tt

  abbrev pub preload_rule : PathText → Option ℕ → Ruled ℕ
  preload_rule path None = fails 3 NoSuchFile path.place
  preload_rule path (Some file) = Give file

  -- The rule of a file's text alone looks into the files.
  abbrev pub rule_of : (n : Node) → Ruled (FactOf n)
  rule_of (Tree file) = tree_rule (folder.look file)
  rule_of (GlobalName file) = do
    found ← Tree file
    name_rule (registered_in found)
  rule_of (Base class) = do
    found ← Tree class.file
    base_rule folder class.file (classes_in found) (slice_get (classes_in found) class.index)
  rule_of (Preloaded file path) = preload_rule path (file_named folder file path.text)

  abbrev pub place_of : Option BaseTree → Option Place
  place_of None = None
  place_of (Some base) = Some base.place

  abbrev pub base_place : Option ClassTree → Option Place
  base_place None = None
  base_place (Some class) = place_of class.base

  -- a class that is reached from itself is at fault at its base
  abbrev pub cyclic_base : Option Place → Option Fault
  cyclic_base None = None
  cyclic_base (Some place) = Some (record { stage = 2; fault = record { kind = CyclicInheritance; place = place } })

  abbrev pub class_in_look : Result Content LoadFault → ℕ → Option ClassTree
  class_in_look (Ok found) index = slice_get (classes_in found) index
  class_in_look (Err fault) index = None

  abbrev pub cycle_fault_of : Node → Option Fault
  cycle_fault_of (Base class) = cyclic_base (base_place (class_in_look (folder.look class.file) class.index))
  cycle_fault_of _ = None

  abbrev pub rules_of : Rules FactOf Fault
  rules_of = record { rule = rule_of; children = λ n. []; cycle_fault = cycle_fault_of }

-- ---- the nodes of a file

abbrev pub base_nodes : ℕ → ℕ → List ClassTree → List Node
base_nodes file at [] = []
base_nodes file at (class ∷ classes) = Base (record { file = file; index = at }) ∷ base_nodes file (suc at) classes

abbrev pub preload_node : ℕ → Option PathText → List Node
preload_node file None = []
preload_node file (Some path) = Preloaded file path ∷ []

abbrev pub constant_node : ℕ → Member-F Member Class → List Node
constant_node file (Member-F.Const c) = preload_node file (preload_of c.value)
constant_node file _ = []

abbrev pub constant_nodes : ℕ → List Member → List Node
constant_nodes file [] = []
constant_nodes file (member ∷ members) = constant_node file (out-Member member) ++ constant_nodes file members

abbrev pub class_nodes : ℕ → List ClassTree → List Node
class_nodes file [] = []
class_nodes file (class ∷ classes) = constant_nodes file class.members ++ class_nodes file classes

abbrev pub nodes_in : ℕ → Result Content LoadFault → List Node
nodes_in file (Ok found) = GlobalName file ∷ base_nodes file 0 (classes_in found) ++ class_nodes file (classes_in found)
nodes_in file (Err fault) = []

-- A file whose text has a fault has no other node.
abbrev pub nodes_of : Folder → ℕ → List Node
nodes_of folder file = Tree file ∷ nodes_in file (folder.look file)
