-- What has a fact in a folder, and what the fact is. Later stages add constructors, each with its fact.
use Rattle.std.specs.Prelude.{ℕ, List}
use Rattle.gd_syntax.specs.declared.fault.FaultKind.{FaultKind}
use Rattle.gd_syntax.specs.declared.fault.LoadFault.{LoadFault}
use Rattle.gd_syntax.specs.declared.fault.Place.{Place}
use Rattle.gd_syntax.specs.declared.tree.type_name.PathText.{PathText}
use Rattle.variant_values.specs.declared.classes.ClassId.{ClassId}
use Rattle.variant_values.specs.declared.classes.ClassTag.{ClassTag}
use Rattle.folder_meaning.specs.declared.facts.Content.{Content}
use Rattle.facts.specs.Facts.{Rule, Fail, Need}

-- Declarations go by number, and expressions by what they are.
pub data Node : Type 0 where
  -- what a file is read as
  Tree : ℕ → Node
  -- that the global name of a file is its own
  GlobalName : ℕ → Node
  -- the ancestors of a class
  Base : ClassId → Node
  -- the file that a `preload` in a file names
  Preloaded : ℕ → PathText → Node

abbrev pub FactOf : Node → Type 0
FactOf (Tree file) = Content
FactOf (GlobalName file) = Unit {0}
-- the nearest first, the native ones at the end
FactOf (Base class) = List ClassTag
FactOf (Preloaded file path) = ℕ

-- a fault, and the stage at which it is found
pub record Fault : Type 0 where
  pub stage : ℕ
  pub fault : LoadFault

abbrev pub Ruled : Type 0 → Type 0
Ruled A = Rule FactOf Fault A

infixl 10 ◌>>=◌
-- first the fact of this node
abbrev pub ◌>>=◌ : {A : Type 0} → (n : Node) → (FactOf n → Ruled A) → Ruled A
n >>= next = Need n next

abbrev pub fails : {A : Type 0} → ℕ → FaultKind → Place → Ruled A
fails stage kind place = Fail (record { stage = stage; fault = record { kind = kind; place = place } })
