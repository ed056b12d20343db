-- The files that the facts and the outcomes of a file can come to hang on, and two folders that agree on these.
use Rattle.std.specs.Prelude.{◌≡◌, ℕ, List, [], ◌∷◌, ◌++◌, option_to_list, Option, Some, None, Result, Ok, Err}
use Rattle.gd_syntax.specs.declared.fault.LoadFault.{LoadFault}
use Rattle.gd_syntax.specs.declared.tree.member.Base.{Base as BaseTree}
use Rattle.gd_syntax.specs.declared.tree.member.BaseRoot.{BaseRoot}
use Rattle.gd_syntax.specs.declared.tree.member.BaseRoot.TheVariants as root
use Rattle.folder_meaning.specs.GlobalNames.{file_of_name}
use Rattle.folder_meaning.specs.declared.facts.Content.{Content}
use Rattle.facts.specs.Reach.{Reaches}
use Rattle.folder_rules.specs.Classes.{ClassTree}
use Rattle.folder_rules.specs.Folders.{Folder, file_named}
use Rattle.folder_rules.specs.Links.{bases_of, classes_in, links_of}
use Rattle.folder_rules.specs.Loads.{HasFault}
use Rattle.folder_rules.specs.Nodes.{Fault, Node, Tree, GlobalName, Base, Preloaded}
use Rattle.folder_rules.specs.Rules.{class_nodes}

-- the file that a node is one of
abbrev pub file_of : Node → ℕ
file_of (Tree file) = file
file_of (GlobalName file) = file
file_of (Base class) = class.file
file_of (Preloaded file path) = file

module _ (folder : Folder) where
  -- the file that a base means by its path or as a global name
  abbrev pub root_read : ℕ → BaseRoot → List ℕ
  root_read file (root.Path text) = option_to_list (file_named folder file text)
  root_read file (root.Name name) = option_to_list (file_of_name folder.globals.classes name)

  abbrev pub base_read : ℕ → Option BaseTree → List ℕ
  base_read file None = []
  base_read file (Some base) = root_read file base.root

  abbrev pub bases_read : ℕ → List ClassTree → List ℕ
  bases_read file [] = []
  bases_read file (class ∷ classes) = base_read file class.base ++ bases_read file classes

  -- the files that constants of its classes name by `preload`
  abbrev pub preload_read : Node → List ℕ
  preload_read (Preloaded file path) = option_to_list (file_named folder file path.text)
  preload_read _ = []

  abbrev pub preloads_read : List Node → List ℕ
  preloads_read [] = []
  preloads_read (node ∷ nodes) = preload_read node ++ preloads_read nodes

  abbrev pub reads_of_look : ℕ → Result Content LoadFault → List ℕ
  reads_of_look file (Ok found) = bases_read file (classes_in found) ++ preloads_read (class_nodes file (classes_in found))
  reads_of_look file (Err fault) = []

  -- what its bases and its constants lead to
  abbrev pub reads_of : ℕ → List ℕ
  reads_of file = reads_of_look file (folder.look file)

  abbrev pub IsRead : ℕ → ℕ → Type 0
  IsRead = Reaches reads_of

  -- what the file's own text leads to: its links, its base files, and what its bases and constants mean
  abbrev pub leads_of : ℕ → List ℕ
  leads_of file = links_of folder file ++ (bases_of folder file ++ reads_of file)

  abbrev pub IsReached : ℕ → ℕ → Type 0
  IsReached = Reaches leads_of

-- the same paths and names, and other texts
abbrev pub with_look : Folder → (ℕ → Result Content LoadFault) → Folder
with_look folder other = record { paths = folder.paths; globals = folder.globals; look = other }

-- All that its bases and constants lead to has the same text.
abbrev pub HasSameReads : Folder → (ℕ → Result Content LoadFault) → ℕ → Type 0
HasSameReads folder other file = (read : ℕ) → IsRead folder file read → folder.look read ≡ other read

-- All that a file reaches has the same text.
abbrev pub IsReadAlike : Folder → (ℕ → Result Content LoadFault) → ℕ → Type 0
IsReadAlike folder other file = (reached : ℕ) → IsReached folder file reached → folder.look reached ≡ other reached

-- A file that its bases and constants lead to has a fault.
pub record HasFaultBehind (folder : Folder) (file : ℕ) : Type 0 where
  pub other : ℕ
  pub read : IsRead folder file other
  pub fault : Fault
  pub is : HasFault folder other fault
