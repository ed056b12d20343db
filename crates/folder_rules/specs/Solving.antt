-- What stage 2 of a file comes to by itself, where its text is read: the ancestors of all its classes, its first fault, or neither, where
-- a class has no ancestors for a fault that another file has or a later stage tells.
use Rattle.std.specs.Prelude.{◌≡◌, ℕ, ◌<◌, length}
use Rattle.folder_meaning.specs.declared.facts.Content.{Content}
use Rattle.facts.specs.Facts.{IsResolved, IsUnresolved}
use Rattle.folder_rules.specs.Folders.{Folder}
use Rattle.folder_rules.specs.Links.{classes_in}
use Rattle.folder_rules.specs.Loads.{HasFault, is_no_later}
use Rattle.folder_rules.specs.Nodes.{Base, Fault}
use Rattle.folder_rules.specs.Rules.{rules_of}

pub data Solving : Type 0 where
  Solved : Solving
  RefusedFor : Fault → Solving
  HeldUp : Solving

module _ (folder : Folder) (file : ℕ) where
  -- its first fault of stage 2
  pub record IsFirstOfBases (x : Fault) : Type 0 where
    pub is : HasFault folder file x
    pub at : x.stage ≡ 2
    pub least : (y : Fault) → HasFault folder file y → y.stage ≡ 2 → is_no_later x y

  abbrev pub HasNoFaultOfBases : Type 0
  HasNoFaultOfBases = (x : Fault) → HasFault folder file x → x.stage ≡ 2 → ⊥

  module _ (content : Content) where
    abbrev pub HasAllAncestors : Type 0
    HasAllAncestors = (index : ℕ) → index < length (classes_in content) → IsResolved (rules_of folder) (Base (record { file = file; index = index }))

    pub record HasClassWithout : Type 0 where
      pub index : ℕ
      pub within : index < length (classes_in content)
      pub is : IsUnresolved (rules_of folder) (Base (record { file = file; index = index }))

    pub data ComesTo : Solving → Type 0 where
      solved : HasNoFaultOfBases → HasAllAncestors → ComesTo Solved
      refused : {x : Fault} → IsFirstOfBases x → ComesTo (RefusedFor x)
      held_up : HasNoFaultOfBases → HasClassWithout → ComesTo HeldUp
