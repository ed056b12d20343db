-- Worked rows of files with inner classes.
use Rattle.std.specs.Prelude.{◌≡◌, ℕ, List, [], ◌∷◌, codes, Option, Some, None}
use Rattle.gd_syntax.specs.declared.fault.FaultKind.TheVariants.{NoSuchClass}
use Rattle.gd_syntax.specs.declared.tree.member.Base.{Base as BaseTree}
use Rattle.gd_syntax.specs.declared.tree.member.Member.{Member}
use Rattle.gd_syntax.specs.declared.tree.member.Script.{Script}
use Rattle.facts.specs.Evaluation.{Ending, Failed, Waits, ending}
use Rattle.folder_rules.specs.BaseRows.{a_path, b_path}
use Rattle.folder_rules.specs.Classes.{ClassTree, classes_of}
use Rattle.folder_rules.specs.Folders.{Folder}
use Rattle.variant_values.specs.declared.classes.ClassTag.{ClassTag}
use Rattle.std.specs.Prelude.{slice_get}
use Rattle.folder_rules.specs.Bases.{base_rule}
use Rattle.folder_rules.specs.Nodes.{Base, FactOf, Fault}
use Rattle.folder_rules.specs.SmallFolders.{at, of_name, extends, registers, class, file, folder, class_id, fault_at}

-- class A extends B:    class B:
abbrev pub two_classes : Script
two_classes = file [] (class (at 1 1) (codes "A") (Some (of_name (at 1 17) (codes "B") [])) [] ∷ class (at 3 1) (codes "B") None [] ∷ [])

-- a: these    b: class_name B
abbrev pub inner_first : Folder
inner_first = folder (a_path ∷ b_path ∷ []) ((codes "B", 1) ∷ []) (two_classes ∷ file (registers (codes "B") ∷ []) [] ∷ [])

-- extends Own    class Own:
abbrev pub own_class : Script
own_class = file (extends 1 (of_name (at 1 9) (codes "Own") []) ∷ []) (class (at 2 1) (codes "Own") None [] ∷ [])

abbrev pub own : Folder
own = folder (a_path ∷ []) [] (own_class ∷ [])

-- class A:        class C extends B:    class B extends A:
--     class B:
abbrev pub nested_classes : Script
nested_classes =
    file []
    (class (at 1 1) (codes "A") None (class (at 2 2) (codes "B") None [] ∷ class (at 4 2) (codes "C") (Some (of_name (at 4 18) (codes "B") [])) [] ∷ [])
    ∷ class (at 6 1) (codes "B") (Some (of_name (at 6 17) (codes "A") [])) []
    ∷ [])

abbrev pub outwards : Folder
outwards = folder (a_path ∷ []) [] (nested_classes ∷ [])

-- a class with these round it
abbrev pub entry : List ℕ → Option (List ℕ) → Option BaseTree → List Member → ClassTree
entry outers name base members = record { outers = outers; name = name; base = base; members = members }

abbrev pub two_entries : List ClassTree
two_entries = entry [] None None two_classes.members ∷ entry (0 ∷ []) (Some (codes "A")) (Some (of_name (at 1 17) (codes "B") [])) [] ∷ entry (0 ∷ []) (Some (codes "B")) None [] ∷ []

abbrev pub own_entries : List ClassTree
own_entries = entry [] None (Some (of_name (at 1 9) (codes "Own") [])) own_class.members ∷ entry (0 ∷ []) (Some (codes "Own")) None [] ∷ []

abbrev pub nested_entries : List ClassTree
nested_entries =
    entry [] None None nested_classes.members
    ∷ entry (0 ∷ []) (Some (codes "A")) None (class (at 2 2) (codes "B") None [] ∷ class (at 4 2) (codes "C") (Some (of_name (at 4 18) (codes "B") [])) [] ∷ [])
    ∷ entry (1 ∷ 0 ∷ []) (Some (codes "B")) None []
    ∷ entry (1 ∷ 0 ∷ []) (Some (codes "C")) (Some (of_name (at 4 18) (codes "B") [])) []
    ∷ entry (0 ∷ []) (Some (codes "B")) (Some (of_name (at 6 17) (codes "A") [])) []
    ∷ []

-- What the base of a class comes to where no fact is known: it fails, or waits for the class that it means.
abbrev pub base_of : Folder → List ClassTree → ℕ → Ending FactOf Fault (List ClassTag)
base_of f classes index = ending (λ m. None) (base_rule f 0 classes (slice_get classes index))

pub record InnerRows : Type 0 where
  pub two : classes_of two_classes ≡ two_entries
  pub inner : base_of inner_first two_entries 1 ≡ Waits (Base (class_id 0 2))
  pub own_one : classes_of own_class ≡ own_entries
  pub own_inner : base_of own own_entries 0 ≡ Failed (fault_at 2 NoSuchClass (at 1 9))
  pub nested : classes_of nested_classes ≡ nested_entries
  pub nearest : base_of outwards nested_entries 3 ≡ Waits (Base (class_id 0 2))
  pub outer : base_of outwards nested_entries 4 ≡ Waits (Base (class_id 0 1))
