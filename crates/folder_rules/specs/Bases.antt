-- Which class a class extends (Godot manual, "GDScript reference", "Inheritance").
use Rattle.std.specs.Prelude.{ℕ, if◌then◌else◌, List, [], ◌∷◌, Option, Some, None}
use Rattle.gd_syntax.specs.declared.fault.FaultKind.TheVariants.{NoSuchFile, NoSuchClass, NotAClass}
use Rattle.gd_syntax.specs.declared.fault.Place.{Place}
use Rattle.gd_syntax.specs.declared.tree.member.Base.{Base as BaseTree}
use Rattle.gd_syntax.specs.declared.tree.member.BaseRoot.{BaseRoot}
use Rattle.gd_syntax.specs.declared.tree.member.BaseRoot.TheVariants as root
use Rattle.gd_syntax.specs.declared.tree.type_name.PathText.{PathText}
use Rattle.variant_values.specs.declared.classes.ClassTag.{ClassTag}
use Rattle.variant_values.specs.declared.classes.ClassTag.TheVariants as of_class
use Rattle.res_paths.specs.Paths.{is_script_name}
use Rattle.folder_meaning.specs.GlobalNames.{file_of_name}
use Rattle.facts.specs.Facts.{Give}
use Rattle.folder_rules.specs.Classes.{ClassTree, inner_class}
use Rattle.folder_rules.specs.Folders.{Folder, file_named, path_at}
use Rattle.folder_rules.specs.Links.{classes_in, inner_round, native_class, preload_at}
use Rattle.folder_rules.specs.Nodes.{Tree, Base, Preloaded, Ruled, fails, ◌>>=◌}

-- the ancestors of a class
abbrev pub Lines : Type 0
Lines = Ruled (List ClassTag)

abbrev pub script_class : ℕ → ℕ → ClassTag
script_class file index = of_class.Script (record { file = file; index = index })

-- a class and its ancestors
abbrev pub with_ancestors : ClassTag → Lines
with_ancestors of_class.Object = Give (of_class.Object ∷ [])
with_ancestors of_class.RefCounted = Give (of_class.RefCounted ∷ of_class.Object ∷ [])
with_ancestors of_class.Node = Give (of_class.Node ∷ of_class.Object ∷ [])
with_ancestors (of_class.Script class) = do
  ancestors ← Base class
  Give (of_class.Script class ∷ ancestors)

-- The base begins at this place, and `next` is what becomes of the class that its first name or its path means.
module _ (place : Place) where
  abbrev pub inner_found : (ClassTag → Lines) → ℕ → Option ℕ → Lines
  inner_found next file None = fails 2 NoSuchClass place
  inner_found next file (Some index) = next (script_class file index)

  -- names after a dot are inner classes that are declared there
  abbrev pub within : List (List ℕ) → ClassTag → Lines
  within [] tag = with_ancestors tag
  within (name ∷ names) (of_class.Script class) = do
    found ← Tree class.file
    inner_found (within names) class.file (inner_class (classes_in found) class.index name)
  within (name ∷ names) native = fails 2 NoSuchClass place

  module _ (folder : Folder) (next : ClassTag → Lines) where
    -- the class of a file; a scene is none
    abbrev pub class_of_file : ℕ → Lines
    class_of_file file = if is_script_name (path_at folder file) then next (script_class file 0) else fails 2 NotAClass place

    abbrev pub class_of_path : Option ℕ → Lines
    class_of_path None = fails 2 NoSuchFile place
    class_of_path (Some file) = class_of_file file

    abbrev pub global_class : Option ℕ → Lines
    global_class None = fails 2 NoSuchClass place
    global_class (Some file) = next (script_class file 0)

    abbrev pub native_or_global : List ℕ → Option ClassTag → Lines
    native_or_global name (Some native) = next native
    native_or_global name None = global_class (file_of_name folder.globals.classes name)

    -- a constant whose value is a `preload` literal, and the others where there is none
    abbrev pub constant_or : ℕ → Lines → Option PathText → Lines
    constant_or file others None = others
    constant_or file others (Some path) = do
      found ← Preloaded file path
      class_of_file found

    -- one of these classes, the nearest first
    abbrev pub constant_among : List ℕ → Lines → List ClassTag → Lines
    constant_among name others [] = others
    constant_among name others (of_class.Script class ∷ tags) = do
      found ← Tree class.file
      constant_or class.file (constant_among name others tags) (preload_at (classes_in found) class.index name)
    constant_among name others (_ ∷ tags) = constant_among name others tags

    -- one that a class round it has, the nearest first, or inherits
    abbrev pub constant_round : ℕ → List ClassTree → List ℕ → Lines → List ℕ → Lines
    constant_round file classes name others [] = others
    constant_round file classes name others (outer ∷ outers) =
        constant_or file
        (do
          ancestors ← Base (record { file = file; index = outer })
          constant_among name (constant_round file classes name others outers) ancestors)
        (preload_at classes outer name)

    -- The name is looked up as an inner class of the classes round it, as such a constant, as a native class, as a global class.
    abbrev pub class_of_name : ℕ → List ClassTree → List ℕ → List ℕ → Option ℕ → Lines
    class_of_name file classes outers name (Some index) = next (script_class file index)
    class_of_name file classes outers name None = constant_round file classes name (native_or_global name (native_class name)) outers

    abbrev pub class_of_root : ℕ → List ClassTree → List ℕ → BaseRoot → Lines
    class_of_root file classes outers (root.Path text) = class_of_path (file_named folder file text)
    class_of_root file classes outers (root.Name name) = class_of_name file classes outers name (inner_round classes outers name)

-- what a class extends; one that says nothing extends RefCounted
abbrev pub extended : Folder → ℕ → List ClassTree → List ℕ → Option BaseTree → Lines
extended folder file classes outers None = with_ancestors of_class.RefCounted
extended folder file classes outers (Some base) = class_of_root base.place folder (within base.place base.names) file classes outers base.root

abbrev pub base_rule : Folder → ℕ → List ClassTree → Option ClassTree → Lines
base_rule folder file classes None = with_ancestors of_class.RefCounted
base_rule folder file classes (Some class) = extended folder file classes class.outers class.base
