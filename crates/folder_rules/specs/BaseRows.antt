-- Worked rows of bases: small folders, and the ancestors of their classes, or the fault of a base.
use Rattle.std.specs.Prelude.{◌≡◌, ℕ, List, [], ◌∷◌, codes, Some}
use Rattle.gd_syntax.specs.declared.fault.FaultKind.TheVariants.{NoSuchFile, NoSuchClass, NotAClass, GlobalNameTaken, CyclicInheritance}
use Rattle.gd_syntax.specs.declared.tree.member.Script.{Script}
use Rattle.facts.specs.Evaluation.{Failed, Waits}
use Rattle.facts.specs.Facts.{IsAtFault}
use Rattle.folder_rules.specs.Folders.{Folder}
use Rattle.folder_rules.specs.Links.{links_of, bases_of}
use Rattle.folder_rules.specs.Nodes.{GlobalName, Base}
use Rattle.folder_rules.specs.Rules.{rules_of}
use Rattle.folder_rules.specs.SmallFolders.{at, of_path, of_name, extends, registers, file, folder, class_id, script, counted, ancestors, comes_to, fault_at}

abbrev pub empty : Script
empty = file [] []

abbrev pub a_path : List ℕ
a_path = codes "res://a.gd"

abbrev pub b_path : List ℕ
b_path = codes "res://b.gd"

abbrev pub c_path : List ℕ
c_path = codes "res://c.gd"

-- a: extends "b.gd"
abbrev pub by_path : Folder
by_path = folder (a_path ∷ b_path ∷ []) [] (file (extends 1 (of_path (at 1 9) (codes "b.gd") []) ∷ []) [] ∷ empty ∷ [])

-- a: extends "gone.gd"
abbrev pub missing : Folder
missing = folder (a_path ∷ []) [] (file (extends 1 (of_path (at 1 9) (codes "gone.gd") []) ∷ []) [] ∷ [])

-- a: extends "project.godot"
abbrev pub settings : Folder
settings = folder (a_path ∷ codes "res://project.godot" ∷ []) [] (file (extends 1 (of_path (at 1 9) (codes "project.godot") []) ∷ []) [] ∷ [])

-- a: extends "s.tscn"
abbrev pub scene : Folder
scene = folder (a_path ∷ codes "res://s.tscn" ∷ []) [] (file (extends 1 (of_path (at 1 9) (codes "s.tscn") []) ∷ []) [] ∷ [])

-- a: extends Nope
abbrev pub unknown : Folder
unknown = folder (a_path ∷ []) [] (file (extends 1 (of_name (at 1 9) (codes "Nope") []) ∷ []) [] ∷ [])

-- a: extends RefCounted.A
abbrev pub in_native : Folder
in_native = folder (a_path ∷ []) [] (file (extends 1 (of_name (at 1 9) (codes "RefCounted") (codes "A" ∷ [])) ∷ []) [] ∷ [])

-- a, b: class_name Twice    c: extends Twice
abbrev pub twice : Folder
twice =
    folder (a_path ∷ b_path ∷ c_path ∷ []) ((codes "Twice", 0) ∷ (codes "Twice", 1) ∷ [])
    (file (registers (codes "Twice") ∷ []) [] ∷ file (registers (codes "Twice") ∷ []) [] ∷ file (extends 1 (of_name (at 1 9) (codes "Twice") []) ∷ []) [] ∷ [])

-- a: class_name Node
abbrev pub native_name : Folder
native_name = folder (a_path ∷ []) ((codes "Node", 0) ∷ []) (file (registers (codes "Node") ∷ []) [] ∷ [])

-- a: extends "b.gd"    b: extends "a.gd"    c: extends "a.gd"
abbrev pub ring : Folder
ring =
    folder (a_path ∷ b_path ∷ c_path ∷ []) []
    (file (extends 1 (of_path (at 1 9) (codes "b.gd") []) ∷ []) [] ∷ file (extends 1 (of_path (at 1 9) (codes "a.gd") []) ∷ []) [] ∷ file (extends 1 (of_path (at 1 9) (codes "a.gd") []) ∷ []) [] ∷ [])

pub record BaseRows : Type 0 where
  pub path : ancestors by_path 0 0 ≡ Some (script 1 0 ∷ counted)
  pub path_links : links_of by_path 0 ≡ 1 ∷ []
  pub path_bases : bases_of by_path 0 ≡ 1 ∷ []
  pub none : ancestors by_path 1 0 ≡ Some counted
  pub missing_file : comes_to missing (Base (class_id 0 0)) ≡ Failed (fault_at 2 NoSuchFile (at 1 9))
  pub missing_links : links_of missing 0 ≡ []
  pub settings_file : comes_to settings (Base (class_id 0 0)) ≡ Failed (fault_at 2 NoSuchFile (at 1 9))
  pub scene_file : comes_to scene (Base (class_id 0 0)) ≡ Failed (fault_at 2 NotAClass (at 1 9))
  pub unknown_name : comes_to unknown (Base (class_id 0 0)) ≡ Failed (fault_at 2 NoSuchClass (at 1 9))
  pub in_native_class : comes_to in_native (Base (class_id 0 0)) ≡ Failed (fault_at 2 NoSuchClass (at 1 9))
  pub taken_first : comes_to twice (GlobalName 0) ≡ Failed (fault_at 2 GlobalNameTaken (at 1 12))
  pub taken_second : comes_to twice (GlobalName 1) ≡ Failed (fault_at 2 GlobalNameTaken (at 1 12))
  pub taken_means_first : ancestors twice 2 0 ≡ Some (script 0 0 ∷ counted)
  pub taken_links : links_of twice 2 ≡ 0 ∷ 1 ∷ []
  pub taken_bases : bases_of twice 2 ≡ 0 ∷ 1 ∷ []
  pub taken_native : comes_to native_name (GlobalName 0) ≡ Failed (fault_at 2 GlobalNameTaken (at 1 12))
  pub ring_first : comes_to ring (Base (class_id 0 0)) ≡ Waits (Base (class_id 1 0))
  pub ring_second : comes_to ring (Base (class_id 1 0)) ≡ Waits (Base (class_id 0 0))
  pub ring_first_fault : IsAtFault (rules_of ring) (Base (class_id 0 0)) (fault_at 2 CyclicInheritance (at 1 9))
  pub ring_second_fault : IsAtFault (rules_of ring) (Base (class_id 1 0)) (fault_at 2 CyclicInheritance (at 1 9))
  pub ring_outside : comes_to ring (Base (class_id 2 0)) ≡ Waits (Base (class_id 0 0))
