-- The nodes that rules of a file's nodes can come to need.
use Rattle.std.proofs.Common.{◌≡◌, ℕ, zero, suc, ◌+◌, inl, inr, ◌&&◌, Bool, true, false, if◌then◌else◌, Option, Some, None, Result, Ok, Err, List, [], ◌∷◌, ◌++◌, option_to_list, slice_get, bytes_eq, codes, Contains, refl, sym, ap, subst, arith}
use Rattle.std.proofs.lemmas.List.Elements.{Contains-append_left, Contains-append_right, Contains-append_cases}
use Rattle.std.proofs.lemmas.Option.{slice_get_within, get_or_from_slice_get}
use Rattle.gd_syntax.specs.declared.fault.FaultKind.TheVariants.{NotAClass, GlobalNameTaken}
use Rattle.gd_syntax.specs.declared.fault.LoadFault.{LoadFault}
use Rattle.gd_syntax.specs.declared.fault.Place.{Place}
use Rattle.gd_syntax.specs.declared.tree.expr.Expr.{Expr}
use Rattle.gd_syntax.specs.declared.tree.member.Base.{Base as BaseTree}
use Rattle.gd_syntax.specs.declared.tree.member.BaseRoot.{BaseRoot}
use Rattle.gd_syntax.specs.declared.tree.member.BaseRoot.TheVariants as root
use Rattle.gd_syntax.specs.declared.tree.member.Class.{Class}
use Rattle.gd_syntax.specs.declared.tree.member.Member.{Member, out-Member}
use Rattle.gd_syntax.specs.declared.tree.member.Member.TheOpen.{Member-F}
use Rattle.gd_syntax.specs.declared.tree.type_name.Identifier.{Identifier}
use Rattle.gd_syntax.specs.declared.tree.type_name.PathText.{PathText}
use Rattle.variant_values.specs.declared.classes.ClassId.{ClassId}
use Rattle.variant_values.specs.declared.classes.ClassTag.{ClassTag}
use Rattle.variant_values.specs.declared.classes.ClassTag.TheVariants as of_class
use Rattle.res_paths.specs.Paths.{is_script_name}
use Rattle.folder_meaning.specs.GlobalNames.{file_of_name}
use Rattle.folder_meaning.specs.declared.facts.Content.{Content}
use Rattle.facts.specs.Facts.{Give, Requires, IsPart}
use Rattle.facts.proofs.Decision.{cons_here, cons_there, cons_cases, none_in}
use Rattle.facts.proofs.Inside.{Safe, asks_in}
use Rattle.folder_rules.specs.Bases.{Lines, script_class, with_ancestors, inner_found, within, class_of_file, class_of_path, global_class, native_or_global, constant_or, constant_among, constant_round, class_of_name, class_of_root, extended, base_rule}
use Rattle.folder_rules.specs.Classes.{ClassTree, inner_class, inner_from, is_in_class, is_named, constant_by, constant_named, preload_in, preload_named, preload_of}
use Rattle.folder_rules.specs.Classes as in_class
use Rattle.folder_rules.specs.Folders.{Folder, file_named, path_at}
use Rattle.folder_rules.specs.Links.{classes_in, inner_or, inner_round, native_class, preload_at, preload_in_class}
use Rattle.folder_rules.specs.Nodes.{Node, Tree, GlobalName, Base, Preloaded, FactOf, fails}
use Rattle.folder_rules.specs.Reached.{file_of, root_read, base_read, bases_read, preload_read, preloads_read, reads_of_look}
use Rattle.folder_rules.specs.Rules.{is_taken, rules_of, rule_of, tree_rule, name_rule, preload_rule, registered_in, base_nodes, preload_node, constant_node, constant_nodes, class_nodes, nodes_in, nodes_of}

pub contains_at : {X : Type 0} (xs : List X) (i : ℕ) (x : X) → slice_get xs i ≡ Some x → Contains xs x
contains_at xs i x e = (i, slice_get_within xs i x e, get_or_from_slice_get xs i x x e)

abbrev pub class_at : ℕ → ℕ → ClassId
class_at file index = record { file = file; index = index }

abbrev pub outer_bases : ℕ → List ℕ → List Node
outer_bases file [] = []
outer_bases file (outer ∷ outers) = Base (class_at file outer) ∷ outer_bases file outers

abbrev pub outer_nodes : ℕ → List ClassTree → List Node
outer_nodes file [] = []
outer_nodes file (class ∷ classes) = outer_bases file class.outers ++ outer_nodes file classes

abbrev pub near_in : ℕ → Result Content LoadFault → List Node
near_in file (Ok found) = base_nodes file 0 (classes_in found) ++ (class_nodes file (classes_in found) ++ outer_nodes file (classes_in found))
near_in file (Err fault) = []

abbrev pub near_nodes : Folder → ℕ → List Node
near_nodes folder file = Tree file ∷ GlobalName file ∷ Base (class_at file 0) ∷ near_in file (folder.look file)

-- each is one of the file
bases_file : (f at : ℕ) (classes : List ClassTree) (m : Node) → Contains (base_nodes f at classes) m → file_of m ≡ f
bases_file f at [] m c = none_in m c
bases_file f at (x ∷ classes) m c = elim (cons_cases (Base (class_at f at)) m (base_nodes f (suc at) classes) c) [ inl e ↦ ap file_of (sym e) | inr k ↦ bases_file f (suc at) classes m k ]

outers_file : (f : ℕ) (outers : List ℕ) (m : Node) → Contains (outer_bases f outers) m → file_of m ≡ f
outers_file f [] m c = none_in m c
outers_file f (x ∷ outers) m c = elim (cons_cases (Base (class_at f x)) m (outer_bases f outers) c) [ inl e ↦ ap file_of (sym e) | inr k ↦ outers_file f outers m k ]

outer_nodes_file : (f : ℕ) (classes : List ClassTree) (m : Node) → Contains (outer_nodes f classes) m → file_of m ≡ f
outer_nodes_file f [] m c = none_in m c
outer_nodes_file f (x ∷ classes) m c = elim (Contains-append_cases (outer_bases f x.outers) (outer_nodes f classes) m c) [ inl h ↦ outers_file f x.outers m h | inr h ↦ outer_nodes_file f classes m h ]

preload_file : (f : ℕ) (o : Option PathText) (m : Node) → Contains (preload_node f o) m → file_of m ≡ f
preload_file f None m c = none_in m c
preload_file f (Some path) m c = elim (cons_cases (Preloaded f path) m [] c) [ inl e ↦ ap file_of (sym e) | inr k ↦ none_in m k ]

constant_file : (f : ℕ) (x : Member-F Member Class) (m : Node) → Contains (constant_node f x) m → file_of m ≡ f
constant_file f (Member-F.Const c) m i = preload_file f (preload_of c.value) m i
constant_file f (Member-F.Pass p) m i = none_in m i
constant_file f (Member-F.Var p) m i = none_in m i
constant_file f (Member-F.Enum p) m i = none_in m i
constant_file f (Member-F.Signal p) m i = none_in m i
constant_file f (Member-F.Func p) m i = none_in m i
constant_file f (Member-F.Class p) m i = none_in m i

constants_file : (f : ℕ) (members : List Member) (m : Node) → Contains (constant_nodes f members) m → file_of m ≡ f
constants_file f [] m c = none_in m c
constants_file f (x ∷ members) m c = elim (Contains-append_cases (constant_node f (out-Member x)) (constant_nodes f members) m c) [ inl h ↦ constant_file f (out-Member x) m h | inr h ↦ constants_file f members m h ]

class_nodes_file : (f : ℕ) (classes : List ClassTree) (m : Node) → Contains (class_nodes f classes) m → file_of m ≡ f
class_nodes_file f [] m c = none_in m c
class_nodes_file f (x ∷ classes) m c = elim (Contains-append_cases (constant_nodes f x.members) (class_nodes f classes) m c) [ inl h ↦ constants_file f x.members m h | inr h ↦ class_nodes_file f classes m h ]

near_in_file : (f : ℕ) (r : Result Content LoadFault) (m : Node) → Contains (near_in f r) m → file_of m ≡ f
near_in_file f (Err fault) m c = none_in m c
near_in_file f (Ok found) m c =
    elim (Contains-append_cases (base_nodes f 0 (classes_in found)) (class_nodes f (classes_in found) ++ outer_nodes f (classes_in found)) m c) [
      | inl h ↦ bases_file f 0 (classes_in found) m h
      | inr h ↦ elim (Contains-append_cases (class_nodes f (classes_in found)) (outer_nodes f (classes_in found)) m h) [
        | inl k ↦ class_nodes_file f (classes_in found) m k
        | inr k ↦ outer_nodes_file f (classes_in found) m k
      ]
    ]

pub near_file : (folder : Folder) (f : ℕ) (m : Node) → Contains (near_nodes folder f) m → file_of m ≡ f
near_file folder f m c =
    elim (cons_cases (Tree f) m (GlobalName f ∷ Base (class_at f 0) ∷ near_in f (folder.look f)) c) [
      | inl e ↦ ap file_of (sym e)
      | inr h ↦ elim (cons_cases (GlobalName f) m (Base (class_at f 0) ∷ near_in f (folder.look f)) h) [
        | inl e ↦ ap file_of (sym e)
        | inr k ↦ elim (cons_cases (Base (class_at f 0)) m (near_in f (folder.look f)) k) [ inl e ↦ ap file_of (sym e) | inr l ↦ near_in_file f (folder.look f) m l ]
      ]
    ]

-- ---- what is found is among these

pub base_in : (file at i : ℕ) (classes : List ClassTree) (class : ClassTree) → slice_get classes i ≡ Some class → Contains (base_nodes file at classes) (Base (class_at file (at + i)))
base_in file at i [] class e = absurd (cc e)
base_in file at zero (c ∷ classes) class e = subst (λ z. Contains (base_nodes file at (c ∷ classes)) (Base (class_at file z))) (omega arith) (cons_here (Base (class_at file at)) (base_nodes file (suc at) classes))
base_in file at (suc i) (c ∷ classes) class e = cons_there (Base (class_at file at)) _ (base_nodes file (suc at) classes) (subst (λ z. Contains (base_nodes file (suc at) classes) (Base (class_at file z))) (omega arith) (base_in file (suc at) i classes class e))

inner_in : (file at : ℕ) (classes : List ClassTree) (outer : ℕ) (name : List ℕ) (index : ℕ) → inner_from at classes outer name ≡ Some index → Contains (base_nodes file at classes) (Base (class_at file index))
inner_in file at [] outer name index e = absurd (cc e)
inner_in file at (class ∷ classes) outer name index e =
    elim (is_in_class outer class.outers && is_named name class.name) as (λ b. (if b then Some at else inner_from (suc at) classes outer name) ≡ Some index → Contains (base_nodes file at (class ∷ classes)) (Base (class_at file index))) [
      | true ↦ λ s. (let same : at ≡ index = cc s in subst (λ z. Contains (base_nodes file at (class ∷ classes)) (Base (class_at file z))) same (cons_here (Base (class_at file at)) (base_nodes file (suc at) classes)))
      | false ↦ λ s. cons_there (Base (class_at file at)) _ (base_nodes file (suc at) classes) (inner_in file (suc at) classes outer name index s)
    ] e

outers_in : (file : ℕ) (outers : List ℕ) (outer : ℕ) → Contains outers outer → Contains (outer_bases file outers) (Base (class_at file outer))
outers_in file [] outer c = none_in outer c
outers_in file (o ∷ outers) outer c =
    elim (cons_cases o outer outers c) [
      | inl e ↦ subst (λ z. Contains (outer_bases file (o ∷ outers)) (Base (class_at file z))) e (cons_here (Base (class_at file o)) (outer_bases file outers))
      | inr k ↦ cons_there (Base (class_at file o)) _ (outer_bases file outers) (outers_in file outers outer k)
    ]

outer_in : (file : ℕ) (classes : List ClassTree) (class : ClassTree) (outer : ℕ) → Contains classes class → Contains class.outers outer → Contains (outer_nodes file classes) (Base (class_at file outer))
outer_in file [] class outer c d = none_in class c
outer_in file (x ∷ classes) class outer c d =
    elim (cons_cases x class classes c) [
      | inl e ↦ Contains-append_left (outer_bases file x.outers) (outer_nodes file classes) _ (outers_in file x.outers outer (subst (λ (z : ClassTree). Contains z.outers outer) (sym e) d))
      | inr k ↦ Contains-append_right (outer_bases file x.outers) (outer_nodes file classes) _ (outer_in file classes class outer k d)
    ]

by_const : (file : ℕ) (members : List Member) (rest : List Node) (value : Expr) (same : Bool) (others : Option Expr) (path : PathText) → (preload_in others ≡ Some path → Contains rest (Preloaded file path)) → preload_in (in_class.constant_or (if same then Some (Some value) else None) others) ≡ Some path → Contains (preload_node file (preload_of value) ++ rest) (Preloaded file path)
by_const file members rest value true others path h e = subst (λ o. Contains (preload_node file o ++ rest) (Preloaded file path)) (sym e) (cons_here (Preloaded file path) rest)
by_const file members rest value false others path h e = Contains-append_right (preload_node file (preload_of value)) rest _ (h e)

by_member : (file : ℕ) (members : List Member) (rest : List Node) (name : List ℕ) (path : PathText) (m : Member-F Member Class) (others : Option Expr) → (preload_in others ≡ Some path → Contains rest (Preloaded file path)) → preload_in (in_class.constant_or (constant_by name m) others) ≡ Some path → Contains (constant_node file m ++ rest) (Preloaded file path)
by_member file members rest name path (Member-F.Const c) others h e = by_const file members rest c.value (bytes_eq c.name.name name) others path h e
by_member file members rest name path (Member-F.Pass p) others h e = h e
by_member file members rest name path (Member-F.Var p) others h e = h e
by_member file members rest name path (Member-F.Enum p) others h e = h e
by_member file members rest name path (Member-F.Signal p) others h e = h e
by_member file members rest name path (Member-F.Func p) others h e = h e
by_member file members rest name path (Member-F.Class p) others h e = h e

constant_in : (file : ℕ) (members : List Member) (name : List ℕ) (path : PathText) → preload_in (constant_named members name) ≡ Some path → Contains (constant_nodes file members) (Preloaded file path)
constant_in file [] name path e = absurd (cc e)
constant_in file (member ∷ members) name path e = by_member file members (constant_nodes file members) name path (out-Member member) (constant_named members name) (λ s. constant_in file members name path s) e

member_in : (file : ℕ) (classes : List ClassTree) (class : ClassTree) (node : Node) → Contains classes class → Contains (constant_nodes file class.members) node → Contains (class_nodes file classes) node
member_in file [] class node c d = none_in class c
member_in file (x ∷ classes) class node c d =
    elim (cons_cases x class classes c) [
      | inl e ↦ Contains-append_left (constant_nodes file x.members) (class_nodes file classes) node (subst (λ (z : ClassTree). Contains (constant_nodes file z.members) node) (sym e) d)
      | inr k ↦ Contains-append_right (constant_nodes file x.members) (class_nodes file classes) node (member_in file classes class node k d)
    ]

preload_found : (file : ℕ) (classes : List ClassTree) (o : Option ClassTree) (name : List ℕ) (path : PathText) → ((class : ClassTree) → o ≡ Some class → Contains classes class) → preload_in_class o name ≡ Some path → Contains (class_nodes file classes) (Preloaded file path)
preload_found file classes None name path h e = absurd (cc e)
preload_found file classes (Some class) name path h e = member_in file classes class (Preloaded file path) (h class refl) (constant_in file class.members name path e)

pub preload_in_nodes : (file : ℕ) (classes : List ClassTree) (place : ℕ) (name : List ℕ) (path : PathText) → preload_at classes place name ≡ Some path → Contains (class_nodes file classes) (Preloaded file path)
preload_in_nodes file classes place name path e = preload_found file classes (slice_get classes place) name path (λ class s. contains_at classes place class s) e

-- ---- what files the bases and constants mean

pub no_base : (f : ℕ) (path : PathText) (at : ℕ) (classes : List ClassTree) → Contains (base_nodes f at classes) (Preloaded f path) → {A : Type 0} → A
no_base f path at [] c = none_in (Preloaded f path) c
no_base f path at (x ∷ classes) c = elim (cons_cases (Base (class_at f at)) (Preloaded f path) (base_nodes f (suc at) classes) c) [ inl e ↦ absurd (cc e) | inr k ↦ no_base f path (suc at) classes k ]

no_outer_base : (f : ℕ) (path : PathText) (outers : List ℕ) → Contains (outer_bases f outers) (Preloaded f path) → {A : Type 0} → A
no_outer_base f path [] c = none_in (Preloaded f path) c
no_outer_base f path (x ∷ outers) c = elim (cons_cases (Base (class_at f x)) (Preloaded f path) (outer_bases f outers) c) [ inl e ↦ absurd (cc e) | inr k ↦ no_outer_base f path outers k ]

pub no_outer : (f : ℕ) (path : PathText) (classes : List ClassTree) → Contains (outer_nodes f classes) (Preloaded f path) → {A : Type 0} → A
no_outer f path [] c = none_in (Preloaded f path) c
no_outer f path (x ∷ classes) c = elim (Contains-append_cases (outer_bases f x.outers) (outer_nodes f classes) (Preloaded f path) c) [ inl h ↦ no_outer_base f path x.outers h | inr h ↦ no_outer f path classes h ]

option_in : (o : Option ℕ) (x : ℕ) → o ≡ Some x → Contains (option_to_list o) x
option_in None x e = absurd (cc e)
option_in (Some y) x e = let same : y ≡ x = cc e in subst (λ z. Contains (y ∷ []) z) same (cons_here y [])

module _ (folder : Folder) where
  base_is_read : (file : ℕ) (classes : List ClassTree) (class : ClassTree) (g : ℕ) → Contains classes class → Contains (base_read folder file class.base) g → Contains (bases_read folder file classes) g
  base_is_read file [] class g c d = none_in class c
  base_is_read file (x ∷ classes) class g c d =
      elim (cons_cases x class classes c) [
        | inl e ↦ Contains-append_left (base_read folder file x.base) (bases_read folder file classes) g (subst (λ (z : ClassTree). Contains (base_read folder file z.base) g) (sym e) d)
        | inr k ↦ Contains-append_right (base_read folder file x.base) (bases_read folder file classes) g (base_is_read file classes class g k d)
      ]

  preload_is_read : (nodes : List Node) (node : Node) (g : ℕ) → Contains nodes node → Contains (preload_read folder node) g → Contains (preloads_read folder nodes) g
  preload_is_read [] node g c d = none_in node c
  preload_is_read (x ∷ nodes) node g c d =
      elim (cons_cases x node nodes c) [
        | inl e ↦ Contains-append_left (preload_read folder x) (preloads_read folder nodes) g (subst (λ z. Contains (preload_read folder z) g) (sym e) d)
        | inr k ↦ Contains-append_right (preload_read folder x) (preloads_read folder nodes) g (preload_is_read nodes node g k d)
      ]

  -- The files of P are such that what their bases and constants mean is of P.
  abbrev pub IsKept : (ℕ → Type 0) → Type 0
  IsKept P = (f g : ℕ) → P f → Contains (reads_of_look folder f (folder.look f)) g → P g

  module _ (P : ℕ → Type 0) (kept : IsKept P) where
    abbrev pub In : Node → Type 0
    In n = P (file_of n) × Contains (near_nodes folder (file_of n)) n

    abbrev pub Fine : (n : Node) → FactOf n → Type 0
    Fine (Tree f) content = folder.look f ≡ Ok content
    Fine (GlobalName f) u = Unit {0}
    Fine (Base c) ancestors = (t : ClassId) → Contains ancestors (of_class.Script t) → P t.file
    Fine (Preloaded f path) g = P g

    abbrev Good : List ClassTag → Type 0
    Good ancestors = (t : ClassId) → Contains ancestors (of_class.Script t) → P t.file

    abbrev GoodTag : ClassTag → Type 0
    GoodTag (of_class.Script class) = In (Base class)
    GoodTag _ = Unit {0}

    after_name : (f : ℕ) (n : Node) → Contains (Base (class_at f 0) ∷ near_in f (folder.look f)) n → Contains (near_nodes folder f) n
    after_name f n c = cons_there (Tree f) n (GlobalName f ∷ Base (class_at f 0) ∷ near_in f (folder.look f)) (cons_there (GlobalName f) n (Base (class_at f 0) ∷ near_in f (folder.look f)) c)

    tree_in : (f : ℕ) → P f → In (Tree f)
    tree_in f p = (p, cons_here (Tree f) (GlobalName f ∷ Base (class_at f 0) ∷ near_in f (folder.look f)))

    first_in : (f : ℕ) → P f → In (Base (class_at f 0))
    first_in f p = (p, after_name f (Base (class_at f 0)) (cons_here (Base (class_at f 0)) (near_in f (folder.look f))))

    near : (f : ℕ) (found : Content) (n : Node) → folder.look f ≡ Ok found → Contains (near_in f (Ok found)) n → Contains (near_nodes folder f) n
    near f found n l c = after_name f n (cons_there (Base (class_at f 0)) n (near_in f (folder.look f)) (subst (λ r. Contains (near_in f r) n) (sym l) c))

    inner_is_in : (f : ℕ) (found : Content) (outer : ℕ) (name : List ℕ) (index : ℕ) → P f → folder.look f ≡ Ok found → inner_class (classes_in found) outer name ≡ Some index → In (Base (class_at f index))
    inner_is_in f found outer name index p l e = (p, near f found _ l (Contains-append_left (base_nodes f 0 (classes_in found)) _ _ (inner_in f 0 (classes_in found) outer name index e)))

    outer_is_in : (f : ℕ) (found : Content) (class : ClassTree) (outer : ℕ) → P f → folder.look f ≡ Ok found → Contains (classes_in found) class → Contains class.outers outer → In (Base (class_at f outer))
    outer_is_in f found class outer p l c d = (p, near f found _ l (Contains-append_right (base_nodes f 0 (classes_in found)) _ _ (Contains-append_right (class_nodes f (classes_in found)) _ _ (outer_in f (classes_in found) class outer c d))))

    preload_is_in : (f : ℕ) (found : Content) (place : ℕ) (name : List ℕ) (path : PathText) → P f → folder.look f ≡ Ok found → preload_at (classes_in found) place name ≡ Some path → In (Preloaded f path)
    preload_is_in f found place name path p l e = (p, near f found _ l (Contains-append_right (base_nodes f 0 (classes_in found)) _ _ (Contains-append_left (class_nodes f (classes_in found)) _ _ (preload_in_nodes f (classes_in found) place name path e))))

    -- ---- rules of bases
    abbrev SafeLines : Lines → Type 0
    SafeLines r = Safe In Fine Good r

    good_cons : (class : ClassId) (ancestors : List ClassTag) → P class.file → Good ancestors → Good (of_class.Script class ∷ ancestors)
    good_cons class ancestors p h t c =
        elim (cons_cases (of_class.Script class) (of_class.Script t) ancestors c) [
          | inl e ↦ (let same : class ≡ t = cc e in subst (λ (z : ClassId). P z.file) same p)
          | inr k ↦ h t k
        ]

    one_native : (native : ClassTag) (t : ClassId) → (native ≡ of_class.Script t → ⊥) → Contains (native ∷ of_class.Object ∷ []) (of_class.Script t) → P t.file
    one_native native t n c =
        elim (cons_cases native (of_class.Script t) (of_class.Object ∷ []) c) [
          | inl e ↦ absurd (n e)
          | inr k ↦ elim (cons_cases of_class.Object (of_class.Script t) [] k) [ inl e ↦ absurd (cc e) | inr z ↦ none_in (of_class.Script t) z ]
        ]

    line_safe : (tag : ClassTag) → GoodTag tag → SafeLines (with_ancestors tag)
    line_safe of_class.Object h = λ t c. elim (cons_cases of_class.Object (of_class.Script t) [] c) [ inl e ↦ absurd (cc e) | inr z ↦ none_in (of_class.Script t) z ]
    line_safe of_class.RefCounted h = λ t c. one_native of_class.RefCounted t (λ e. cc e) c
    line_safe of_class.Node h = λ t c. one_native of_class.Node t (λ e. cc e) c
    line_safe (of_class.Script class) h = (h, λ ancestors g. good_cons class ancestors h.0 g)

    abbrev SafeNext : (ClassTag → Lines) → Type 0
    SafeNext next = (tag : ClassTag) → GoodTag tag → SafeLines (next tag)

    inner_safe : (place : Place) (next : ClassTag → Lines) (f : ℕ) (o : Option ℕ) → SafeNext next → ((index : ℕ) → o ≡ Some index → In (Base (class_at f index))) → SafeLines (inner_found place next f o)
    inner_safe place next f None s h = tt
    inner_safe place next f (Some index) s h = s (script_class f index) (h index refl)

    within_safe : (place : Place) (names : List (List ℕ)) → SafeNext (within place names)
    within_safe place [] tag h = line_safe tag h
    within_safe place (name ∷ names) (of_class.Script class) h = (tree_in class.file h.0, λ found l. inner_safe place (within place names) class.file (inner_class (classes_in found) class.index name) (within_safe place names) (λ index e. inner_is_in class.file found class.index name index h.0 l e))
    within_safe place (name ∷ names) of_class.Object h = tt
    within_safe place (name ∷ names) of_class.RefCounted h = tt
    within_safe place (name ∷ names) of_class.Node h = tt

    module _ (place : Place) (next : ClassTag → Lines) (s : SafeNext next) where
      file_safe : (g : ℕ) → P g → SafeLines (class_of_file place folder next g)
      file_safe g p =
          elim (is_script_name (path_at folder g)) as (λ b. SafeLines (if b then next (script_class g 0) else fails 2 NotAClass place)) [
            | true ↦ s (script_class g 0) (first_in g p)
            | false ↦ tt
          ]

      path_safe : (o : Option ℕ) → ((g : ℕ) → o ≡ Some g → P g) → SafeLines (class_of_path place folder next o)
      path_safe None h = tt
      path_safe (Some g) h = file_safe g (h g refl)

      global_safe : (o : Option ℕ) → ((g : ℕ) → o ≡ Some g → P g) → SafeLines (global_class place folder next o)
      global_safe None h = tt
      global_safe (Some g) h = s (script_class g 0) (first_in g (h g refl))

      by_tests : (a b c : Bool) (tag : ClassTag) → (if a then Some of_class.Object else if b then Some of_class.RefCounted else if c then Some of_class.Node else None) ≡ Some tag → GoodTag tag
      by_tests true b c tag e = let same : of_class.Object ≡ tag = cc e in subst GoodTag same tt
      by_tests false true c tag e = let same : of_class.RefCounted ≡ tag = cc e in subst GoodTag same tt
      by_tests false false true tag e = let same : of_class.Node ≡ tag = cc e in subst GoodTag same tt
      by_tests false false false tag e = absurd (cc e)

      native_tag : (name : List ℕ) (tag : ClassTag) → native_class name ≡ Some tag → GoodTag tag
      native_tag name tag e = by_tests (bytes_eq name (codes "Object")) (bytes_eq name (codes "RefCounted")) (bytes_eq name (codes "Node")) tag e

      native_safe : (name : List ℕ) (o : Option ClassTag) → ((tag : ClassTag) → o ≡ Some tag → GoodTag tag) → ((g : ℕ) → file_of_name folder.globals.classes name ≡ Some g → P g) → SafeLines (native_or_global place folder next name o)
      native_safe name (Some native) n h = s native (n native refl)
      native_safe name None n h = global_safe (file_of_name folder.globals.classes name) h

      constant_safe : (f : ℕ) (others : Lines) (o : Option PathText) → SafeLines others → ((path : PathText) → o ≡ Some path → In (Preloaded f path)) → SafeLines (constant_or place folder next f others o)
      constant_safe f others None h i = h
      constant_safe f others (Some path) h i = (i path refl, λ g p. file_safe g p)

      among_safe : (name : List ℕ) (others : Lines) (tags : List ClassTag) → SafeLines others → Good tags → SafeLines (constant_among place folder next name others tags)
      among_safe name others [] h g = h
      among_safe name others (of_class.Script class ∷ tags) h g =
          let p : P class.file = g class (cons_here (of_class.Script class) tags) in
          (tree_in class.file p, λ found l. constant_safe class.file _ (preload_at (classes_in found) class.index name) (among_safe name others tags h (λ t c. g t (cons_there (of_class.Script class) _ tags c))) (λ path e. preload_is_in class.file found class.index name path p l e))
      among_safe name others (of_class.Object ∷ tags) h g = among_safe name others tags h (λ t c. g t (cons_there of_class.Object _ tags c))
      among_safe name others (of_class.RefCounted ∷ tags) h g = among_safe name others tags h (λ t c. g t (cons_there of_class.RefCounted _ tags c))
      among_safe name others (of_class.Node ∷ tags) h g = among_safe name others tags h (λ t c. g t (cons_there of_class.Node _ tags c))

      module _ (f : ℕ) (found : Content) (p : P f) (l : folder.look f ≡ Ok found) where
        round_safe : (name : List ℕ) (others : Lines) (outers : List ℕ) → SafeLines others → ((o : ℕ) → Contains outers o → In (Base (class_at f o))) → SafeLines (constant_round place folder next f (classes_in found) name others outers)
        round_safe name others [] h i = h
        round_safe name others (outer ∷ outers) h i =
            constant_safe f _ (preload_at (classes_in found) outer name)
            (i outer (cons_here outer outers), λ ancestors g. among_safe name _ ancestors (round_safe name others outers h (λ o c. i o (cons_there outer o outers c))) g)
            (λ path e. preload_is_in f found outer name path p l e)

        either_inner : (a b : Option ℕ) (index : ℕ) → ((i : ℕ) → a ≡ Some i → In (Base (class_at f i))) → ((i : ℕ) → b ≡ Some i → In (Base (class_at f i))) → inner_or a b ≡ Some index → In (Base (class_at f index))
        either_inner (Some x) b index g h e = g index e
        either_inner None b index g h e = h index e

        round_inner : (outers : List ℕ) (name : List ℕ) (index : ℕ) → inner_round (classes_in found) outers name ≡ Some index → In (Base (class_at f index))
        round_inner [] name index e = absurd (cc e)
        round_inner (outer ∷ outers) name index e = either_inner (inner_class (classes_in found) outer name) (inner_round (classes_in found) outers name) index (λ i h. inner_is_in f found outer name i p l h) (λ i h. round_inner outers name i h) e

        name_safe : (outers : List ℕ) (name : List ℕ) (o : Option ℕ) → ((index : ℕ) → o ≡ Some index → In (Base (class_at f index))) → ((o : ℕ) → Contains outers o → In (Base (class_at f o))) → ((g : ℕ) → file_of_name folder.globals.classes name ≡ Some g → P g) → SafeLines (class_of_name place folder next f (classes_in found) outers name o)
        name_safe outers name (Some index) h i k = s (script_class f index) (h index refl)
        name_safe outers name None h i k = round_safe name _ outers (native_safe name (native_class name) (native_tag name) k) i

        root_safe : (outers : List ℕ) (r : BaseRoot) → ((o : ℕ) → Contains outers o → In (Base (class_at f o))) → ((g : ℕ) → Contains (root_read folder f r) g → P g) → SafeLines (class_of_root place folder next f (classes_in found) outers r)
        root_safe outers (root.Path text) i k = path_safe (file_named folder f text) (λ g e. k g (option_in (file_named folder f text) g e))
        root_safe outers (root.Name name) i k = name_safe outers name (inner_round (classes_in found) outers name) (round_inner outers name) i (λ g e. k g (option_in (file_of_name folder.globals.classes name) g e))

    extended_safe : (f : ℕ) (found : Content) → P f → folder.look f ≡ Ok found → (outers : List ℕ) (b : Option BaseTree) → ((o : ℕ) → Contains outers o → In (Base (class_at f o))) → ((g : ℕ) → Contains (base_read folder f b) g → P g) → SafeLines (extended folder f (classes_in found) outers b)
    extended_safe f found p l outers None i k = line_safe of_class.RefCounted tt
    extended_safe f found p l outers (Some base) i k = root_safe base.place (within base.place base.names) (within_safe base.place base.names) f found p l outers base.root i k

    base_safe : (f : ℕ) (found : Content) → P f → folder.look f ≡ Ok found → (o : Option ClassTree) → ((class : ClassTree) → o ≡ Some class → Contains (classes_in found) class) → SafeLines (base_rule folder f (classes_in found) o)
    base_safe f found p l None h = line_safe of_class.RefCounted tt
    base_safe f found p l (Some class) h =
        extended_safe f found p l class.outers class.base (λ o c. outer_is_in f found class o p l (h class refl) c)
        (λ g c. kept f g p (subst (λ r. Contains (reads_of_look folder f r) g) (sym l) (Contains-append_left (bases_read folder f (classes_in found)) _ g (base_is_read f (classes_in found) class g (h class refl) c))))

    -- ---- every rule

    tree_safe : (f : ℕ) (r : Result Content LoadFault) → folder.look f ≡ r → Safe In Fine (Fine (Tree f)) (tree_rule r)
    tree_safe f (Ok found) l = l
    tree_safe f (Err fault) l = tt

    name_rule_safe : (o : Option Identifier) → Safe In Fine (λ (u : Unit {0}). Unit {0}) (name_rule folder o)
    name_rule_safe None = tt
    name_rule_safe (Some name) =
        elim (is_taken folder name.name) as (λ b. Safe In Fine (λ (u : Unit {0}). Unit {0}) (if b then fails 2 GlobalNameTaken name.place else Give tt)) [ true ↦ tt | false ↦ tt ]

    base_node_safe : (c : ClassId) → P c.file → Safe In Fine Good (rule_of folder (Base c))
    base_node_safe c p = (tree_in c.file p, λ found l. base_safe c.file found p l (slice_get (classes_in found) c.index) (λ class e. contains_at (classes_in found) c.index class e))

    global_node_safe : (f : ℕ) → P f → Safe In Fine (λ u. Unit {0}) (rule_of folder (GlobalName f))
    global_node_safe f p = (tree_in f p, λ found l. name_rule_safe (registered_in found))

    preload_safe : (f : ℕ) (path : PathText) (o : Option ℕ) → ((g : ℕ) → o ≡ Some g → P g) → Safe In Fine P (preload_rule folder path o)
    preload_safe f path None h = tt
    preload_safe f path (Some g) h = h g refl

    preload_node_read : (f : ℕ) (path : PathText) (r : Result Content LoadFault) (g : ℕ) → Contains (near_in f r) (Preloaded f path) → Contains (option_to_list (file_named folder f path.text)) g → Contains (reads_of_look folder f r) g
    preload_node_read f path (Err fault) g c d = none_in (Preloaded f path) c
    preload_node_read f path (Ok found) g c d =
        elim (Contains-append_cases (base_nodes f 0 (classes_in found)) (class_nodes f (classes_in found) ++ outer_nodes f (classes_in found)) (Preloaded f path) c) [
          | inl h ↦ no_base f path 0 (classes_in found) h
          | inr h ↦ elim (Contains-append_cases (class_nodes f (classes_in found)) (outer_nodes f (classes_in found)) (Preloaded f path) h) [
            | inl k ↦ Contains-append_right (bases_read folder f (classes_in found)) _ g (preload_is_read (class_nodes f (classes_in found)) (Preloaded f path) g k d)
            | inr k ↦ no_outer f path (classes_in found) k
          ]
        ]

    pub behind : (f : ℕ) (path : PathText) → Contains (near_nodes folder f) (Preloaded f path) → Contains (near_in f (folder.look f)) (Preloaded f path)
    behind f path c =
        elim (cons_cases (Tree f) (Preloaded f path) (GlobalName f ∷ Base (class_at f 0) ∷ near_in f (folder.look f)) c) [
          | inl e ↦ absurd (cc e)
          | inr h ↦ elim (cons_cases (GlobalName f) (Preloaded f path) (Base (class_at f 0) ∷ near_in f (folder.look f)) h) [
            | inl e ↦ absurd (cc e)
            | inr k ↦ elim (cons_cases (Base (class_at f 0)) (Preloaded f path) (near_in f (folder.look f)) k) [ inl e ↦ absurd (cc e) | inr l ↦ l ]
          ]
        ]

    safe : (n : Node) → In n → Safe In Fine (Fine n) (rule_of folder n)
    safe (Tree f) i = tree_safe f (folder.look f) refl
    safe (GlobalName f) i = global_node_safe f i.0
    safe (Base c) i = base_node_safe c i.0
    safe (Preloaded f path) i = preload_safe f path (file_named folder f path.text) (λ g e. kept f g i.0 (preload_node_read f path (folder.look f) g (behind f path i.1) (option_in (file_named folder f path.text) g e)))

    part_of : (n m : Node) → Safe In Fine (Fine n) (rule_of folder n) → IsPart (rules_of folder) n m → In m
    part_of n m s q = elim q [ inl c ↦ none_in m c | inr a ↦ asks_in In Fine (rules_of folder) safe (Fine n) (rule_of folder n) m a s ]

    no_part : (f : ℕ) (path : PathText) (o : Option ℕ) (m : Node) → Requires (rules_of folder) (preload_rule folder path o) m → In m
    no_part f path None m a = elim a [ ]
    no_part f path (Some g) m a = elim a [ ]

    -- parts of a node of P are near
    pub parts_in : (n m : Node) → P (file_of n) → IsPart (rules_of folder) n m → In m
    parts_in (Tree f) m p q = part_of (Tree f) m (tree_safe f (folder.look f) refl) q
    parts_in (GlobalName f) m p q = part_of (GlobalName f) m (global_node_safe f p) q
    parts_in (Base c) m p q = part_of (Base c) m (base_node_safe c p) q
    parts_in (Preloaded f path) m p q = elim q [ inl c ↦ none_in m c | inr a ↦ no_part f path (file_named folder f path.text) m a ]

nodes_in_file : (f : ℕ) (r : Result Content LoadFault) (m : Node) → Contains (nodes_in f r) m → file_of m ≡ f
nodes_in_file f (Err fault) m c = none_in m c
nodes_in_file f (Ok found) m c =
    elim (cons_cases (GlobalName f) m (base_nodes f 0 (classes_in found) ++ class_nodes f (classes_in found)) c) [
      | inl e ↦ ap file_of (sym e)
      | inr h ↦ elim (Contains-append_cases (base_nodes f 0 (classes_in found)) (class_nodes f (classes_in found)) m h) [
        | inl k ↦ bases_file f 0 (classes_in found) m k
        | inr k ↦ class_nodes_file f (classes_in found) m k
      ]
    ]

pub nodes_file : (folder : Folder) (f : ℕ) (m : Node) → Contains (nodes_of folder f) m → file_of m ≡ f
nodes_file folder f m c = elim (cons_cases (Tree f) m (nodes_in f (folder.look f)) c) [ inl e ↦ ap file_of (sym e) | inr h ↦ nodes_in_file f (folder.look f) m h ]
