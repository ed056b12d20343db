-- The files that a folder's files lead to have numbers below a bound, so finitely many nodes can be needed.
use Rattle.std.proofs.Common.{◌≡◌, ℕ, zero, suc, ◌+◌, ◌<◌, inl, inr, true, false, if◌then◌else◌, Option, Some, None, Result, Ok, Err, List, [], ◌∷◌, ◌++◌, option_to_list, bytes_eq, encode_utf8_all, length, Contains, ap, subst, arith}
use Rattle.std.proofs.lemmas.List.Elements.{Contains-append_left, Contains-append_right, Contains-append_cases}
use Rattle.std.proofs.lemmas.Bool.Decides.{eqb_tells}
use Rattle.gd_syntax.specs.declared.fault.LoadFault.{LoadFault}
use Rattle.gd_syntax.specs.declared.tree.member.Base.{Base as BaseTree}
use Rattle.gd_syntax.specs.declared.tree.member.BaseRoot.{BaseRoot}
use Rattle.gd_syntax.specs.declared.tree.member.BaseRoot.TheVariants as root
use Rattle.gd_syntax.specs.declared.tree.type_name.PathText.{PathText}
use Rattle.res_paths.specs.Paths.{project_file}
use Rattle.variant_values.specs.declared.classes.ClassTag.{ClassTag}
use Rattle.folder_meaning.specs.GlobalNames.{file_of_name}
use Rattle.folder_meaning.specs.declared.facts.Content.{Content}
use Rattle.folder_meaning.specs.declared.facts.Content.TheVariants as content
use Rattle.facts.specs.FiniteNodes.{IsClosed}
use Rattle.facts.proofs.Decision.{cons_here, cons_there, cons_cases, none_in}
use Rattle.folder_rules.specs.Classes.{ClassTree}
use Rattle.folder_rules.specs.Folders.{Folder, file_named, files_of_name, named_path, number_from, number_of, path_at}
use Rattle.folder_rules.specs.Links.{all_bases, base_files, bases_of, bases_of_look, classes_in, constant_files, content_links, files_used, global_files, inner_round, links_of, links_of_look, name_files, native_class, preload_round, root_files}
use Rattle.folder_rules.specs.Nodes.{Node, Tree, GlobalName, Base, Preloaded}
use Rattle.folder_rules.specs.Reached.{file_of, root_read, base_read, bases_read, preload_read, preloads_read, reads_of_look}
use Rattle.folder_rules.specs.Rules.{rules_of, class_nodes}
use Rattle.folder_rules.specs.Uses.{Use, APath, AName, uses_of}
use Rattle.folder_rules.proofs.Near.{In, near_nodes, near_file, parts_in}

abbrev name_bound : List (List ℕ × ℕ) → ℕ
name_bound [] = 0
name_bound (pair ∷ pairs) = suc pair.1 + name_bound pairs

abbrev pub bound : Folder → ℕ
bound folder = length folder.paths + name_bound folder.globals.classes

-- each of these numbers is below it
abbrev AllBelow : ℕ → List ℕ → Type 0
AllBelow n xs = (g : ℕ) → Contains xs g → g < n

none_below : (n : ℕ) → AllBelow n []
none_below n g c = none_in g c

both_below : (n : ℕ) (xs ys : List ℕ) → AllBelow n xs → AllBelow n ys → AllBelow n (xs ++ ys)
both_below n xs ys h k g c = elim (Contains-append_cases xs ys g c) [ inl a ↦ h g a | inr b ↦ k g b ]

option_below : (n : ℕ) (o : Option ℕ) → ((g : ℕ) → o ≡ Some g → g < n) → AllBelow n (option_to_list o)
option_below n None h g c = none_in g c
option_below n (Some x) h g c = elim (cons_cases x g [] c) [ inl e ↦ h g (ap Some e) | inr k ↦ none_in g k ]

number_below : (at : ℕ) (paths : List (List ℕ)) (path : List ℕ) (g : ℕ) → number_from at paths path ≡ Some g → g < at + length paths
number_below at [] path g e = absurd (cc e)
number_below at (first ∷ paths) path g e =
    elim (bytes_eq first path) as (λ b. (if b then Some at else number_from (suc at) paths path) ≡ Some g → g < at + suc (length paths)) [
      | true ↦ λ s. (let same : at ≡ g = cc s in omega (arith, same))
      | false ↦ λ s. (let r = number_below (suc at) paths path g s in omega (arith, r))
    ] e

of_path_below : (paths : List (List ℕ)) (o : Option (List ℕ)) (g : ℕ) → number_of paths o ≡ Some g → g < length paths
of_path_below paths None g e = absurd (cc e)
of_path_below paths (Some path) g e =
    elim (bytes_eq path project_file) as (λ b. (if b then None else number_from 0 paths path) ≡ Some g → g < length paths) [
      | true ↦ λ s. absurd (cc s)
      | false ↦ λ s. (let r = number_below 0 paths path g s in omega (arith, r))
    ] e

name_below : (pairs : List (List ℕ × ℕ)) (name : List ℕ) (g : ℕ) → file_of_name pairs name ≡ Some g → g < name_bound pairs
name_below [] name g e = absurd (cc e)
name_below (pair ∷ pairs) name g e =
    elim (bytes_eq pair.0 name) as (λ b. (if b then Some pair.1 else file_of_name pairs name) ≡ Some g → g < suc pair.1 + name_bound pairs) [
      | true ↦ λ s. (let same : pair.1 ≡ g = cc s in omega (arith, same))
      | false ↦ λ s. (let r = name_below pairs name g s in omega (arith, r))
    ] e

names_below : (pairs : List (List ℕ × ℕ)) (name : List ℕ) → AllBelow (name_bound pairs) (files_of_name pairs name)
names_below [] name g c = none_below 0 g c
names_below (pair ∷ pairs) name g c =
    elim (bytes_eq pair.0 name) as (λ b. Contains (if b then pair.1 ∷ files_of_name pairs name else files_of_name pairs name) g → g < suc pair.1 + name_bound pairs) [
      | true ↦ λ d. elim (cons_cases pair.1 g (files_of_name pairs name) d) [
        | inl e ↦ omega (arith, e)
        | inr k ↦ (let r = names_below pairs name g k in omega (arith, r))
      ]
      | false ↦ λ d. (let r = names_below pairs name g d in omega (arith, r))
    ] c

module _ (folder : Folder) where
  abbrev Below : List ℕ → Type 0
  Below = AllBelow (bound folder)

  named_below : (f : ℕ) (text : List ℕ) → Below (option_to_list (file_named folder f text))
  named_below f text = option_below (bound folder) (file_named folder f text) (λ g e. let r = of_path_below folder.paths (named_path (path_at folder f) (encode_utf8_all text)) g e in omega (arith, r))

  one_name_below : (name : List ℕ) → Below (option_to_list (file_of_name folder.globals.classes name))
  one_name_below name = option_below (bound folder) (file_of_name folder.globals.classes name) (λ g e. let r = name_below folder.globals.classes name g e in omega (arith, r))

  all_names_below : (name : List ℕ) → Below (files_of_name folder.globals.classes name)
  all_names_below name g c = let r = names_below folder.globals.classes name g c in omega (arith, r)

  -- ---- what rules read
  root_below : (f : ℕ) (r : BaseRoot) → Below (root_read folder f r)
  root_below f (root.Path text) = named_below f text
  root_below f (root.Name name) = one_name_below name

  base_below : (f : ℕ) (b : Option BaseTree) → Below (base_read folder f b)
  base_below f None = none_below (bound folder)
  base_below f (Some base) = root_below f base.root

  bases_below : (f : ℕ) (classes : List ClassTree) → Below (bases_read folder f classes)
  bases_below f [] = none_below (bound folder)
  bases_below f (class ∷ classes) = both_below (bound folder) (base_read folder f class.base) (bases_read folder f classes) (base_below f class.base) (bases_below f classes)

  preload_below : (n : Node) → Below (preload_read folder n)
  preload_below (Tree f) = none_below (bound folder)
  preload_below (GlobalName f) = none_below (bound folder)
  preload_below (Base c) = none_below (bound folder)
  preload_below (Preloaded f path) = named_below f path.text

  preloads_below : (nodes : List Node) → Below (preloads_read folder nodes)
  preloads_below [] = none_below (bound folder)
  preloads_below (n ∷ nodes) = both_below (bound folder) (preload_read folder n) (preloads_read folder nodes) (preload_below n) (preloads_below nodes)

  reads_below : (f : ℕ) (r : Result Content LoadFault) → Below (reads_of_look folder f r)
  reads_below f (Ok found) = both_below (bound folder) (bases_read folder f (classes_in found)) (preloads_read folder (class_nodes f (classes_in found))) (bases_below f (classes_in found)) (preloads_below (class_nodes f (classes_in found)))
  reads_below f (Err fault) = none_below (bound folder)

  -- ---- links and bases
  used_below : (f : ℕ) (uses : List Use) → Below (files_used folder f uses)
  used_below f [] = none_below (bound folder)
  used_below f (APath text ∷ uses) = both_below (bound folder) (option_to_list (file_named folder f text)) (files_used folder f uses) (named_below f text) (used_below f uses)
  used_below f (AName name ∷ uses) = both_below (bound folder) (files_of_name folder.globals.classes name) (files_used folder f uses) (all_names_below name) (used_below f uses)

  content_below : (f : ℕ) (found : Content) → Below (content_links folder f found)
  content_below f (content.Script s) = used_below f (uses_of s)

  links_look_below : (f : ℕ) (r : Result Content LoadFault) → Below (links_of_look folder f r)
  links_look_below f (Ok found) = content_below f found
  links_look_below f (Err fault) = none_below (bound folder)

  pub links_below : (f : ℕ) → Below (links_of folder f)
  links_below f = links_look_below f (folder.look f)

  global_below : (f : ℕ) (name : List ℕ) (o : Option ClassTag) → Below (global_files folder f name o)
  global_below f name (Some native) = none_below (bound folder)
  global_below f name None = all_names_below name

  constant_below : (f : ℕ) (name : List ℕ) (o : Option PathText) → Below (constant_files folder f name o)
  constant_below f name (Some path) = named_below f path.text
  constant_below f name None = global_below f name (native_class name)

  name_files_below : (f : ℕ) (classes : List ClassTree) (outers name : List ℕ) (o : Option ℕ) → Below (name_files folder f classes outers name o)
  name_files_below f classes outers name (Some inner) = none_below (bound folder)
  name_files_below f classes outers name None = constant_below f name (preload_round classes outers name)

  root_files_below : (f : ℕ) (classes : List ClassTree) (outers : List ℕ) (r : BaseRoot) → Below (root_files folder f classes outers r)
  root_files_below f classes outers (root.Path text) = named_below f text
  root_files_below f classes outers (root.Name name) = name_files_below f classes outers name (inner_round classes outers name)

  base_files_below : (f : ℕ) (classes : List ClassTree) (outers : List ℕ) (b : Option BaseTree) → Below (base_files folder f classes outers b)
  base_files_below f classes outers None = none_below (bound folder)
  base_files_below f classes outers (Some base) = root_files_below f classes outers base.root

  all_bases_below : (f : ℕ) (classes some : List ClassTree) → Below (all_bases folder f classes some)
  all_bases_below f classes [] = none_below (bound folder)
  all_bases_below f classes (class ∷ others) = both_below (bound folder) (base_files folder f classes class.outers class.base) (all_bases folder f classes others) (base_files_below f classes class.outers class.base) (all_bases_below f classes others)

  bases_look_below : (f : ℕ) (r : Result Content LoadFault) → Below (bases_of_look folder f r)
  bases_look_below f (Ok found) = all_bases_below f (classes_in found) (classes_in found)
  bases_look_below f (Err fault) = none_below (bound folder)

  pub bases_of_below : (f : ℕ) → Below (bases_of folder f)
  bases_of_below f = bases_look_below f (folder.look f)

  -- ---- the nodes of the files below a number

  nodes_below : ℕ → List Node
  nodes_below zero = []
  nodes_below (suc n) = near_nodes folder n ++ nodes_below n

  below_in : (n f : ℕ) (m : Node) → f < n → Contains (near_nodes folder f) m → Contains (nodes_below n) m
  unfolding nodes_below
  below_in zero f m h c = absurd (omega (arith, h))
  below_in (suc n) f m h c =
      elim (eqb_tells f n) [
        | inl w ↦ Contains-append_left (near_nodes folder n) (nodes_below n) m (subst (λ z. Contains (near_nodes folder z) m) w.1 c)
        | inr w ↦ Contains-append_right (near_nodes folder n) (nodes_below n) m (below_in n f m (omega (arith, h, w.1)) c)
      ]

  below_out : (n : ℕ) (m : Node) → Contains (nodes_below n) m → file_of m < n
  unfolding nodes_below
  below_out zero m c = none_in m c
  below_out (suc n) m c =
      elim (Contains-append_cases (near_nodes folder n) (nodes_below n) m c) [
        | inl h ↦ (let e = near_file folder n m h in omega (arith, e))
        | inr h ↦ (let r = below_out n m h in omega (arith, r))
      ]

  -- a node, and all that are near a file below this
  module _ (n : Node) where
    abbrev pub most : ℕ
    most = bound folder + suc (file_of n)

    abbrev pub Under : ℕ → Type 0
    Under f = f < most

    pub kept : (f g : ℕ) → Under f → Contains (reads_of_look folder f (folder.look f)) g → Under g
    kept f g u c = let r = reads_below f (folder.look f) g c in omega (arith, r)

    pub all : List Node
    all = n ∷ nodes_below most

    pub in_all : (m : Node) → In folder Under kept m → Contains all m
    unfolding all
    in_all m i = cons_there n m (nodes_below most) (below_in most (file_of m) m i.0 i.1)

    pub itself_in : Contains all n
    unfolding all
    itself_in = cons_here n (nodes_below most)

    under : (m : Node) → Contains all m → Under (file_of m)
    unfolding all
    under m c = elim (cons_cases n m (nodes_below most) c) [ inl e ↦ subst (λ z. Under (file_of z)) e (omega arith) | inr k ↦ below_out most m k ]

    pub near_in_all : (m : Node) → Contains (near_nodes folder (file_of n)) m → Contains all m
    unfolding all
    near_in_all m c = cons_there n m (nodes_below most) (below_in most (file_of n) m (omega arith) c)

    pub closed : IsClosed (rules_of folder) all
    closed = record { parts = λ a b c q. in_all b (parts_in folder Under kept a b (under a c) q) }
