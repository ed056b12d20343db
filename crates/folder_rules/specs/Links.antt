-- The files that a file names, and those that its classes stand on.
use Rattle.std.specs.Prelude.{ℕ, if◌then◌else◌, List, [], ◌∷◌, ◌++◌, option_to_list, Option, Some, None, Result, Ok, Err, slice_get}
use Rattle.gd_syntax.specs.declared.fault.LoadFault.{LoadFault}
use Rattle.gd_syntax.specs.declared.tree.member.Base.{Base}
use Rattle.gd_syntax.specs.declared.tree.member.BaseRoot.{BaseRoot}
use Rattle.gd_syntax.specs.declared.tree.member.BaseRoot.TheVariants as root
use Rattle.gd_syntax.specs.declared.tree.type_name.PathText.{PathText}
use Rattle.variant_values.specs.declared.classes.ClassTag.{ClassTag}
use Rattle.variant_values.specs.declared.classes.ClassTag.TheVariants as of_class
use Rattle.folder_meaning.specs.declared.facts.Content.{Content}
use Rattle.folder_meaning.specs.declared.facts.Content.TheVariants as content
use Rattle.std.specs.Prelude.{codes, bytes_eq}
use Rattle.folder_rules.specs.Classes.{ClassTree, classes_of, inner_class, preload_named}
use Rattle.folder_rules.specs.Folders.{Folder, file_named, files_of_name}
use Rattle.folder_rules.specs.Uses.{Use, APath, AName, uses_of}

-- the native classes
abbrev pub native_class : List ℕ → Option ClassTag
native_class name =
    if bytes_eq name (codes "Object") then Some of_class.Object
    else if bytes_eq name (codes "RefCounted") then Some of_class.RefCounted
    else if bytes_eq name (codes "Node") then Some of_class.Node
    else None

-- the classes of what a file is read as
abbrev pub classes_in : Content → List ClassTree
classes_in (content.Script s) = classes_of s

-- the path of a `preload` that is the value of this constant of the class at this place
abbrev pub preload_in_class : Option ClassTree → List ℕ → Option PathText
preload_in_class None name = None
preload_in_class (Some class) name = preload_named class.members name

abbrev pub preload_at : List ClassTree → ℕ → List ℕ → Option PathText
preload_at classes place name = preload_in_class (slice_get classes place) name

-- the inner class of a name in the nearest of these classes that declares one
abbrev pub inner_or : Option ℕ → Option ℕ → Option ℕ
inner_or (Some found) others = Some found
inner_or None others = others

abbrev pub inner_round : List ClassTree → List ℕ → List ℕ → Option ℕ
inner_round classes [] name = None
inner_round classes (outer ∷ outers) name = inner_or (inner_class classes outer name) (inner_round classes outers name)

abbrev pub preload_or : Option PathText → Option PathText → Option PathText
preload_or (Some found) others = Some found
preload_or None others = others

-- the `preload` that a constant of that name has, in the nearest of these classes that declares such a one
abbrev pub preload_round : List ClassTree → List ℕ → List ℕ → Option PathText
preload_round classes [] name = None
preload_round classes (outer ∷ outers) name = preload_or (preload_at classes outer name) (preload_round classes outers name)

module _ (folder : Folder) (file : ℕ) where
  abbrev pub files_used : List Use → List ℕ
  files_used [] = []
  files_used (APath text ∷ uses) = option_to_list (file_named folder file text) ++ files_used uses
  files_used (AName name ∷ uses) = files_of_name folder.globals.classes name ++ files_used uses

  abbrev pub content_links : Content → List ℕ
  content_links (content.Script s) = files_used (uses_of s)

  -- the files that a global name means as a base, unless a native class has it
  abbrev pub global_files : List ℕ → Option ClassTag → List ℕ
  global_files name (Some native) = []
  global_files name None = files_of_name folder.globals.classes name

  abbrev pub constant_files : List ℕ → Option PathText → List ℕ
  constant_files name (Some path) = option_to_list (file_named folder file path.text)
  constant_files name None = global_files name (native_class name)

  abbrev pub name_files : List ClassTree → List ℕ → List ℕ → Option ℕ → List ℕ
  name_files classes outers name (Some inner) = []
  name_files classes outers name None = constant_files name (preload_round classes outers name)

  abbrev pub root_files : List ClassTree → List ℕ → BaseRoot → List ℕ
  root_files classes outers (root.Path text) = option_to_list (file_named folder file text)
  root_files classes outers (root.Name name) = name_files classes outers name (inner_round classes outers name)

  abbrev pub base_files : List ClassTree → List ℕ → Option Base → List ℕ
  base_files classes outers None = []
  base_files classes outers (Some base) = root_files classes outers base.root

  abbrev pub all_bases : List ClassTree → List ClassTree → List ℕ
  all_bases classes [] = []
  all_bases classes (class ∷ others) = base_files classes class.outers class.base ++ all_bases classes others

  -- A file with a fault of its text has neither.
  abbrev pub links_of_look : Result Content LoadFault → List ℕ
  links_of_look (Ok found) = content_links found
  links_of_look (Err fault) = []

  abbrev pub bases_of_look : Result Content LoadFault → List ℕ
  bases_of_look (Ok found) = all_bases (classes_in found) (classes_in found)
  bases_of_look (Err fault) = []

-- the files that a file names
abbrev pub links_of : Folder → ℕ → List ℕ
links_of folder file = links_of_look folder file (folder.look file)

-- the files that its classes name as bases
abbrev pub bases_of : Folder → ℕ → List ℕ
bases_of folder file = bases_of_look folder file (folder.look file)
