-- How cells stand to one another stays so over each change.
use Rattle.std.proofs.Common.{All, Bool, not, ◌&&◌, ◌||◌, ◌++◌, ◌≡◌, ℕ, ◌<◌, ◌≤◌, true, false, cond, nat_eq, nat_lt, List, [], ◌∷◌, length, get_or, set, filter, refl, sym, ◌∙◌, ap, subst, Option, Some, None, is_some, arith, inl, inr}
use Rattle.std.specs.Prelude.{IfSome}
use Rattle.std.specs.List.{list_any, sum_by}
use Rattle.std.specs.Option.{option_map}
use Rattle.std.proofs.lemmas.List.{get_or-set_same, get_or-set_other, get_or_past, get_or_append_left, get_or_push, length_push, length-set, set_past}
use Rattle.std.proofs.lemmas.List.Elements.{All-filter, All-push, filter_passes}
use Rattle.std.proofs.lemmas.List.Filters.{sum_by-filter_both}
use Rattle.std.proofs.lemmas.List.Sums.{sum_by-cons, sum_by_push}
use Rattle.std.proofs.lemmas.Bool.{cases_Bool, cases_eq, cases_lt, false≢true, eqb-true, eq-eqb, and_parts, and_from, or_parts, lt-ltb}
use Rattle.std.proofs.lemmas.Cmp.{nat_list_eq_equiv}
use Rattle.std.proofs.lemmas.Bool.Decides.{nat_tests}
use Rattle.variant_values.specs.Operators.{same_text}
use Rattle.variant_values.specs.declared.values.Serial.{Serial}
use Rattle.variant_values.specs.declared.values.Value.{Value}
use Rattle.variant_values.specs.declared.values.Key.{Key}
use Rattle.variant_values.specs.declared.cells.NodePart.{NodePart}
use Rattle.variant_values.specs.declared.cells.Connection.{Connection}
use Rattle.variant_values.specs.declared.cells.Cell.{Cell}
use Rattle.variant_values.specs.declared.cells.Cell.TheVariants.{Array as ArrayCell, Dict as DictCell, Object as ObjectCell}
use Rattle.variant_values.specs.Classes.{is_ref_counted}
use Rattle.variant_values.specs.Places.{is_counted}
use Rattle.variant_values.specs.Heaps.{Heap, cell_at, entries_put, field_put, is_living, is_no_container, is_object, items_put, knows_object, IsFresh}
use Rattle.variant_values.specs.Links.{connections_of, connections_put, is_connection, times_linked}
use Rattle.variant_values.specs.Sound.{IsClassed, IsQueue, IsShaped}
use Rattle.variant_values.specs.Sweeps.{Goes, goes, cut_slot, IsSwept}
use Rattle.variant_values.specs.Trees.{children_in, children_of, is_node, is_parent, node_put, parent_in, parent_of, times_in, IsGrounded, root, child}

or_none : (x y : Bool) → (x || y) ≡ false → (x ≡ false) × (y ≡ false)
or_none x y e = or_parts x y e

ground_same : (a b : List (Option Cell)) → ((x : ℕ) → parent_of (cell_at b x) ≡ parent_of (cell_at a x)) → (x : ℕ) → IsGrounded a x → IsGrounded b x
ground_same a b e w (root x n) = root x (e x ∙ n)
ground_same a b e w (child x p f g) = child x p (e x ∙ f) (ground_same a b e p.0 g)

-- where parents and children are the same
pub shaped_as : (a b : List (Option Cell)) → ((x : ℕ) → parent_of (cell_at b x) ≡ parent_of (cell_at a x)) → ((x : ℕ) → children_of (cell_at b x) ≡ children_of (cell_at a x)) → ((x : ℕ) → IsClassed (cell_at b x)) → ((x : ℕ) → All (λ c. is_living b c.target.0 ≡ true) (connections_of (cell_at b x))) → ((x : ℕ) (signal : List ℕ) (to : Serial) (method : List ℕ) → times_linked signal to method (connections_of (cell_at b x)) ≤ 1) → IsShaped a → IsShaped b
shaped_as a b parent children classed targets once s = record {
  family = λ p x. ap (times_in x) (children p) ∙ s.family p x ∙ ap (λ o. cond (is_parent p o) 1 0) (sym (parent x));
  grounded = λ x. ground_same a b parent x (s.grounded x);
  targets = targets;
  once = once;
  classed = classed;
}

-- where connections are the same, too
targets_as : (a b : List (Option Cell)) (x : ℕ) → connections_of (cell_at b x) ≡ connections_of (cell_at a x) → ((y : ℕ) → is_living a y ≡ true → is_living b y ≡ true) → IsShaped a → All (λ c. is_living b c.target.0 ≡ true) (connections_of (cell_at b x))
targets_as a b x e lives s =
    let P : List Connection → Type 0 = λ cs. All (λ c. is_living b c.target.0 ≡ true) cs in
    subst P (sym e) (λ i d l. lives _ (s.targets x i d l))

once_as : (a b : List (Option Cell)) (x : ℕ) → connections_of (cell_at b x) ≡ connections_of (cell_at a x) → IsShaped a → (signal : List ℕ) (to : Serial) (method : List ℕ) → times_linked signal to method (connections_of (cell_at b x)) ≤ 1
once_as a b x e s signal to method = omega (arith, ap (times_linked signal to method) e, s.once x signal to method)

pub shaped_alike : (a b : List (Option Cell)) → ((x : ℕ) → parent_of (cell_at b x) ≡ parent_of (cell_at a x)) → ((x : ℕ) → children_of (cell_at b x) ≡ children_of (cell_at a x)) → ((x : ℕ) → connections_of (cell_at b x) ≡ connections_of (cell_at a x)) → ((x : ℕ) → IsClassed (cell_at b x)) → ((x : ℕ) → is_living a x ≡ true → is_living b x ≡ true) → IsShaped a → IsShaped b
shaped_alike a b parent children links classed lives s = shaped_as a b parent children classed (λ x. targets_as a b x (links x) lives s) (λ x. once_as a b x (links x) s) s

-- what was asked to be freed
pub queue_as : (a b : List (Option Cell)) (q : List Serial) → length a ≤ length b → ((x : ℕ) → x < length a → is_no_container (cell_at a x) ≡ true → is_counted (cell_at a x) ≡ false → (is_no_container (cell_at b x) ≡ true) × (is_counted (cell_at b x) ≡ false)) → IsQueue a q → IsQueue b q
queue_as a b q more f k = λ i d l. one (get_or q i d) (k i d l)
  where
    one : (s : Serial) → (knows_object a s ≡ true) × (is_counted (cell_at a s.0) ≡ false) → (knows_object b s ≡ true) × (is_counted (cell_at b s.0) ≡ false)
    one s h =
        let parts = and_parts (nat_lt 0 s.0) _ h.0 in
        let later = and_parts (nat_lt s.0 (length a)) _ parts.1 in
        let within : s.0 < length a = within_of s.0 (length a) later.0 in
        let now = f s.0 within later.1 h.1 in
        (and_from (nat_lt 0 s.0) _ parts.0 (and_from (nat_lt s.0 (length b)) _ (lt-ltb s.0 (length b) (omega (arith, within, more))) now.0), now.1)
      where
        within_of : (x n : ℕ) → nat_lt x n ≡ true → x < n
        within_of x n e = elim (cases_lt x n) [ inl h ↦ h | inr h ↦ absurd (grind (arith, nat_tests)) ]

-- what two cells have beside values and connections is the same
pub record IsKin (s t : Option Cell) : Type 0 where
  pub lives : is_some t ≡ is_some s
  pub parent : parent_of t ≡ parent_of s
  pub children : children_of t ≡ children_of s
  pub classed : IsClassed s → IsClassed t
  pub single : is_no_container t ≡ is_no_container s
  pub counted : is_counted t ≡ is_counted s

kin_itself : (s : Option Cell) → IsKin s s
kin_itself s = record { lives = refl; parent = refl; children = refl; classed = λ k. k; single = refl; counted = refl }

pub field_kin : (i : ℕ) (v : Value) (s : Option Cell) → IsKin s (field_put i v s)
field_kin i v None = kin_itself None
field_kin i v (Some (ArrayCell vs of)) = kin_itself (Some (ArrayCell vs of))
field_kin i v (Some (DictCell es)) = kin_itself (Some (DictCell es))
field_kin i v (Some (ObjectCell o)) = record { lives = refl; parent = refl; children = refl; classed = λ k. k; single = refl; counted = refl }

pub items_kin : (vs : List Value) (s : Option Cell) → IsKin s (items_put vs s)
items_kin vs None = kin_itself None
items_kin vs (Some (ArrayCell ws of)) = record { lives = refl; parent = refl; children = refl; classed = λ k. k; single = refl; counted = refl }
items_kin vs (Some (DictCell es)) = kin_itself (Some (DictCell es))
items_kin vs (Some (ObjectCell o)) = kin_itself (Some (ObjectCell o))

pub entries_kin : (es : List (Key × Value)) (s : Option Cell) → IsKin s (entries_put es s)
entries_kin es None = kin_itself None
entries_kin es (Some (ArrayCell vs of)) = kin_itself (Some (ArrayCell vs of))
entries_kin es (Some (DictCell fs)) = record { lives = refl; parent = refl; children = refl; classed = λ k. k; single = refl; counted = refl }
entries_kin es (Some (ObjectCell o)) = kin_itself (Some (ObjectCell o))

pub links_kin : (cs : List Connection) (s : Option Cell) → IsKin s (connections_put cs s)
links_kin cs None = kin_itself None
links_kin cs (Some (ArrayCell vs of)) = kin_itself (Some (ArrayCell vs of))
links_kin cs (Some (DictCell es)) = kin_itself (Some (DictCell es))
links_kin cs (Some (ObjectCell o)) = record { lives = refl; parent = refl; children = refl; classed = λ k. k; single = refl; counted = refl }

part_some : (f : NodePart → NodePart) (n : Option NodePart) → is_some (option_map f n) ≡ is_some n
part_some f None = refl
part_some f (Some n) = refl

-- what a change of the node part leaves
pub record IsNodeKin (s t : Option Cell) : Type 0 where
  pub lives : is_some t ≡ is_some s
  pub links : connections_of t ≡ connections_of s
  pub classed : IsClassed s → IsClassed t
  pub single : is_no_container t ≡ is_no_container s
  pub counted : is_counted t ≡ is_counted s

pub node_kin : (f : NodePart → NodePart) (s : Option Cell) → IsNodeKin s (node_put f s)
node_kin f None = record { lives = refl; links = refl; classed = λ k. k; single = refl; counted = refl }
node_kin f (Some (ArrayCell vs of)) = record { lives = refl; links = refl; classed = λ k. k; single = refl; counted = refl }
node_kin f (Some (DictCell es)) = record { lives = refl; links = refl; classed = λ k. k; single = refl; counted = refl }
node_kin f (Some (ObjectCell o)) = record {
  lives = refl;
  links = refl;
  classed = λ k. (k.0, part_some f o.node ∙ k.1);
  single = refl;
  counted = ap (λ b. list_any is_ref_counted o.lineage && not b) (part_some f o.node);
}

part_parent : (f : NodePart → NodePart) (n : Option NodePart) → ((m : NodePart) → (f m).parent ≡ m.parent) → parent_in (option_map f n) ≡ parent_in n
part_parent f None e = refl
part_parent f (Some n) e = e n

part_children : (f : NodePart → NodePart) (n : Option NodePart) → ((m : NodePart) → (f m).children ≡ m.children) → children_in (option_map f n) ≡ children_in n
part_children f None e = refl
part_children f (Some n) e = e n

pub put_parent : (f : NodePart → NodePart) (s : Option Cell) → ((m : NodePart) → (f m).parent ≡ m.parent) → parent_of (node_put f s) ≡ parent_of s
put_parent f None e = refl
put_parent f (Some (ArrayCell vs of)) e = refl
put_parent f (Some (DictCell es)) e = refl
put_parent f (Some (ObjectCell o)) e = part_parent f o.node e

pub put_children : (f : NodePart → NodePart) (s : Option Cell) → ((m : NodePart) → (f m).children ≡ m.children) → children_of (node_put f s) ≡ children_of s
put_children f None e = refl
put_children f (Some (ArrayCell vs of)) e = refl
put_children f (Some (DictCell es)) e = refl
put_children f (Some (ObjectCell o)) e = part_children f o.node e

-- what is the same of a cell that is put there is the same of all cells
pub put_same : {X : Type 0} (f : Option Cell → X) (cells : List (Option Cell)) (x y : ℕ) (t : Option Cell) → f t ≡ f (cell_at cells x) → f (cell_at (set cells x t) y) ≡ f (cell_at cells y)
put_same f cells x y t e = elim (cases_lt x (length cells)) [
  | inl h ↦ elim (cases_eq x y) [
    | inl same ↦ subst (λ z. f (cell_at (set cells x t) z) ≡ f (cell_at cells z)) same (ap f (get_or-set_same cells x t None h) ∙ e)
    | inr ne ↦ ap f (get_or-set_other cells x y t None (λ e. ne (sym e)))
  ]
  | inr h ↦ ap (λ (d : List (Option Cell)). f (cell_at d y)) (set_past cells x t h)
]

-- what is true of a cell that is put there, and of those before, is true of all
pub put_true : (P : Option Cell → Type 0) (cells : List (Option Cell)) (x y : ℕ) (t : Option Cell) → P t → P (cell_at cells y) → P (cell_at (set cells x t) y)
put_true P cells x y t k m = elim (cases_lt x (length cells)) [
  | inl h ↦ elim (cases_eq x y) [
    | inl same ↦ subst (λ z. P (cell_at (set cells x t) z)) same (subst P (sym (get_or-set_same cells x t None h)) k)
    | inr ne ↦ subst P (sym (get_or-set_other cells x y t None (λ e. ne (sym e)))) m
  ]
  | inr h ↦ let Q : List (Option Cell) → Type 0 = λ d. P (cell_at d y) in subst Q (sym (set_past cells x t h)) m
]

-- another cell at x, which stands as it did
pub shaped_put : (cells : List (Option Cell)) (x : ℕ) (t : Option Cell) → IsKin (cell_at cells x) t → connections_of t ≡ connections_of (cell_at cells x) → IsShaped cells → IsShaped (set cells x t)
shaped_put cells x t k links s = shaped_alike cells (set cells x t)
    (λ y. put_same parent_of cells x y t k.parent)
    (λ y. put_same children_of cells x y t k.children)
    (λ y. put_same connections_of cells x y t links)
    (λ y. put_true IsClassed cells x y t (k.classed (s.classed x)) (s.classed y))
    (λ y l. put_same is_some cells x y t k.lives ∙ l)
    s

pub queue_put : (cells : List (Option Cell)) (x : ℕ) (t : Option Cell) (q : List Serial) → is_no_container t ≡ is_no_container (cell_at cells x) → is_counted t ≡ is_counted (cell_at cells x) → IsQueue cells q → IsQueue (set cells x t) q
queue_put cells x t q single counted k = queue_as cells (set cells x t) q (omega (arith, length-set cells x t)) (λ y l f g. (put_same is_no_container cells x y t single ∙ f, put_same is_counted cells x y t counted ∙ g)) k

-- connections
pub times_left : (p : Connection → Bool) (signal : List ℕ) (to : Serial) (method : List ℕ) (cs : List Connection) → times_linked signal to method (filter p cs) ≤ times_linked signal to method cs
times_left p signal to method cs = omega (arith, sum_by-filter_both p (λ c. not (p c)) (λ c. refl) (λ c. cond (is_connection signal to method c) 1 0) cs)

pub shaped_links : (cells : List (Option Cell)) (x : ℕ) (cs : List Connection) → All (λ c. is_living cells c.target.0 ≡ true) cs → ((signal : List ℕ) (to : Serial) (method : List ℕ) → times_linked signal to method cs ≤ 1) → is_object (cell_at cells x) ≡ true → IsShaped cells → IsShaped (set cells x (connections_put cs (cell_at cells x)))
shaped_links cells x cs targets once object s =
    let t = connections_put cs (cell_at cells x) in
    let k = links_kin cs (cell_at cells x) in
    let lives : (y : ℕ) → is_living (set cells x t) y ≡ is_living cells y = λ y. put_same is_some cells x y t k.lives in
    let there : connections_of t ≡ cs = links_are cs (cell_at cells x) object in
    shaped_as cells (set cells x t)
    (λ y. put_same parent_of cells x y t k.parent)
    (λ y. put_same children_of cells x y t k.children)
    (λ y. put_true IsClassed cells x y t (k.classed (s.classed x)) (s.classed y))
    (λ y. put_true (λ (d : Option Cell). All (λ c. is_living (set cells x t) c.target.0 ≡ true) (connections_of d)) cells x y t
    (let P : List Connection → Type 0 = λ ds. All (λ c. is_living (set cells x t) c.target.0 ≡ true) ds in subst P (sym there) (λ i d l. lives _ ∙ targets i d l))
    (λ i d l. lives _ ∙ s.targets y i d l))
    (λ y signal to method. put_true (λ (d : Option Cell). times_linked signal to method (connections_of d) ≤ 1) cells x y t (omega (arith, ap (times_linked signal to method) there, once signal to method)) (s.once y signal to method))
    s
  where
    links_are : (cs : List Connection) (s : Option Cell) → is_object s ≡ true → connections_of (connections_put cs s) ≡ cs
    links_are cs None o = absurd (false≢true o)
    links_are cs (Some (ArrayCell vs of)) o = absurd (false≢true o)
    links_are cs (Some (DictCell es)) o = absurd (false≢true o)
    links_are cs (Some (ObjectCell p)) o = refl

pub shaped_unlinked : (cells : List (Option Cell)) (x : ℕ) (p : Connection → Bool) → is_object (cell_at cells x) ≡ true → IsShaped cells → IsShaped (set cells x (connections_put (filter p (connections_of (cell_at cells x))) (cell_at cells x)))
shaped_unlinked cells x p object s = shaped_links cells x (filter p (connections_of (cell_at cells x)))
    (All-filter p (λ c. is_living cells c.target.0 ≡ true) (connections_of (cell_at cells x)) (s.targets x))
    (λ signal to method. omega (arith, times_left p signal to method (connections_of (cell_at cells x)), s.once x signal to method))
    object s

no_such : (f : Connection → Bool) (cs : List Connection) → list_any f cs ≡ false → sum_by (λ c. cond (f c) 1 0) cs ≡ 0
no_such f [] e = refl
no_such f (c ∷ cs) e =
    let parts = or_none (f c) (list_any f cs) e in
    omega (arith, sum_by-cons (λ c. cond (f c) 1 0) c cs, ap {B = ℕ} (λ b. cond b 1 0) parts.0, no_such f cs parts.1)

-- the same test of two connections
pub same_link : (signal : List ℕ) (to : Serial) (method : List ℕ) (c d : Connection) → is_connection signal to method c ≡ true → is_connection signal to method d ≡ true → is_connection c.signal c.target c.method d ≡ true
same_link signal to method c d h k =
    let a = and_parts (same_text c.signal signal) _ h in
    let b = and_parts (nat_eq c.target.0 to.0) _ a.1 in
    let e = and_parts (same_text d.signal signal) _ k in
    let f = and_parts (nat_eq d.target.0 to.0) _ e.1 in
    and_from (same_text d.signal c.signal) _ (alike d.signal signal c.signal e.0 a.0) (and_from (nat_eq d.target.0 c.target.0) _ (eq-eqb d.target.0 c.target.0 (eqb-true d.target.0 to.0 f.0 ∙ sym (eqb-true c.target.0 to.0 b.0))) (alike d.method method c.method f.1 b.1))
  where
    alike : (x y z : List ℕ) → same_text x y ≡ true → same_text z y ≡ true → same_text x z ≡ true
    alike x y z p q = nat_list_eq_equiv.congr x y z p ∙ nat_list_eq_equiv.symm y z ∙ q

no_more : (signal : List ℕ) (to : Serial) (method : List ℕ) (c : Connection) (cs : List Connection) → is_connection signal to method c ≡ true → list_any (is_connection c.signal c.target c.method) cs ≡ false → times_linked signal to method cs ≡ 0
no_more signal to method c [] h e = refl
no_more signal to method c (d ∷ ds) h e =
    let parts = or_none (is_connection c.signal c.target c.method d) _ e in
    elim (cases_Bool (is_connection signal to method d)) [
      | inl k ↦ absurd (false≢true (sym parts.0 ∙ same_link signal to method c d h k))
      | inr k ↦ omega (arith, sum_by-cons (λ c. cond (is_connection signal to method c) 1 0) d ds, ap {B = ℕ} (λ b. cond b 1 0) k, no_more signal to method c ds h parts.1)
    ]

-- a connection more, which was not there
pub once_more : (c : Connection) (cs : List Connection) → list_any (is_connection c.signal c.target c.method) cs ≡ false → ((signal : List ℕ) (to : Serial) (method : List ℕ) → times_linked signal to method cs ≤ 1) → (signal : List ℕ) (to : Serial) (method : List ℕ) → times_linked signal to method (cs ++ c ∷ []) ≤ 1
once_more c cs fresh once signal to method = elim (cases_Bool (is_connection signal to method c)) [
  | inl h ↦ omega (arith, sum_by_push (λ c. cond (is_connection signal to method c) 1 0) cs c, ap {B = ℕ} (λ b. cond b 1 0) h, no_more signal to method c cs h fresh)
  | inr h ↦ omega (arith, sum_by_push (λ c. cond (is_connection signal to method c) 1 0) cs c, ap {B = ℕ} (λ b. cond b 1 0) h, once signal to method)
]

pub shaped_linked : (cells : List (Option Cell)) (x : ℕ) (c : Connection) → is_object (cell_at cells x) ≡ true → is_living cells c.target.0 ≡ true → list_any (is_connection c.signal c.target c.method) (connections_of (cell_at cells x)) ≡ false → IsShaped cells → IsShaped (set cells x (connections_put (connections_of (cell_at cells x) ++ c ∷ []) (cell_at cells x)))
shaped_linked cells x c object lives fresh s = shaped_links cells x (connections_of (cell_at cells x) ++ c ∷ [])
    (All-push (λ c. is_living cells c.target.0 ≡ true) (connections_of (cell_at cells x)) c (s.targets x) lives)
    (once_more c (connections_of (cell_at cells x)) fresh (s.once x))
    object s

-- a cell more, which is new
fresh_children : (c : Cell) → IsFresh c → children_of (Some c) ≡ []
fresh_children (ArrayCell vs of) f = refl
fresh_children (DictCell es) f = refl
fresh_children (ObjectCell o) f = none o.node f.3
  where
    none : (n : Option NodePart) → IfSome n (λ n. (n.parent ≡ None) × (n.children ≡ [])) → children_in n ≡ []
    none None g = refl
    none (Some n) g = g.1

fresh_parent : (c : Cell) → IsFresh c → parent_of (Some c) ≡ None
fresh_parent (ArrayCell vs of) f = refl
fresh_parent (DictCell es) f = refl
fresh_parent (ObjectCell o) f = none o.node f.3
  where
    none : (n : Option NodePart) → IfSome n (λ n. (n.parent ≡ None) × (n.children ≡ [])) → parent_in n ≡ None
    none None g = refl
    none (Some n) g = g.0

fresh_links : (c : Cell) → IsFresh c → connections_of (Some c) ≡ []
fresh_links (ArrayCell vs of) f = refl
fresh_links (DictCell es) f = refl
fresh_links (ObjectCell o) f = f.0

fresh_classed : (c : Cell) → IsFresh c → IsClassed (Some c)
fresh_classed (ArrayCell vs of) f = tt
fresh_classed (DictCell es) f = tt
fresh_classed (ObjectCell o) f = (f.1, f.2)

-- what a new cell has as none has it
grown_same : {X : Type 0} (f : Option Cell → X) (cells : List (Option Cell)) (c : Cell) → f (Some c) ≡ f None → (x : ℕ) → f (cell_at (cells ++ Some c ∷ []) x) ≡ f (cell_at cells x)
grown_same f cells c e x = elim (cases_lt x (length cells)) [
  | inl h ↦ ap f (get_or_append_left cells (Some c ∷ []) None x h)
  | inr h ↦ elim (cases_eq (length cells) x) [
    | inl same ↦ ap f (get_or_push cells (Some c) None x same) ∙ e ∙ ap f (sym (get_or_past cells x None h))
    | inr ne ↦ ap f (get_or_past (cells ++ Some c ∷ []) x None (omega (arith, length_push cells (Some c), h, ne))) ∙ ap f (sym (get_or_past cells x None h))
  ]
]

grown_classed : (cells : List (Option Cell)) (c : Cell) → IsClassed (Some c) → ((x : ℕ) → IsClassed (cell_at cells x)) → (x : ℕ) → IsClassed (cell_at (cells ++ Some c ∷ []) x)
grown_classed cells c k m x = elim (cases_lt x (length cells)) [
  | inl h ↦ subst IsClassed (sym (get_or_append_left cells (Some c ∷ []) None x h)) (m x)
  | inr h ↦ elim (cases_eq (length cells) x) [
    | inl same ↦ subst IsClassed (sym (get_or_push cells (Some c) None x same)) k
    | inr ne ↦ subst IsClassed (sym (get_or_past (cells ++ Some c ∷ []) x None (omega (arith, length_push cells (Some c), h, ne)))) tt
  ]
]

living_within : (cells : List (Option Cell)) (x : ℕ) → is_living cells x ≡ true → x < length cells
living_within cells x l = elim (cases_lt x (length cells)) [ inl h ↦ h | inr h ↦ absurd (false≢true (sym (ap is_some (get_or_past cells x None h)) ∙ l)) ]

pub shaped_grown : (cells : List (Option Cell)) (c : Cell) → IsFresh c → IsShaped cells → IsShaped (cells ++ Some c ∷ [])
shaped_grown cells c f s = shaped_alike cells (cells ++ Some c ∷ [])
    (grown_same parent_of cells c (fresh_parent c f))
    (grown_same children_of cells c (fresh_children c f))
    (grown_same connections_of cells c (fresh_links c f))
    (grown_classed cells c (fresh_classed c f) s.classed)
    (λ x l. ap is_some (get_or_append_left cells (Some c ∷ []) None x (living_within cells x l)) ∙ l)
    s

pub queue_grown : (cells : List (Option Cell)) (c : Cell) (q : List Serial) → IsQueue cells q → IsQueue (cells ++ Some c ∷ []) q
queue_grown cells c q k = queue_as cells (cells ++ Some c ∷ []) q (omega (arith, length_push cells (Some c))) (λ x l f g.
    let same = get_or_append_left cells (Some c ∷ []) None x l in
    (ap is_no_container same ∙ f, ap is_counted same ∙ g)) k

-- a sweep: what is counted is no node
counted_single : (s : Option Cell) → is_counted s ≡ true → (node : is_node s ≡ true) → ⊥
counted_single None e node = false≢true node
counted_single (Some (ArrayCell vs of)) e node = false≢true node
counted_single (Some (DictCell es)) e node = false≢true node
counted_single (Some (ObjectCell o)) e node = false≢true (sym (ap not node) ∙ (and_parts (list_any is_ref_counted o.lineage) _ e).1)

part_none : (n : Option NodePart) → (is_some n ≡ true → ⊥) → (parent_in n ≡ None) × (children_in n ≡ [])
part_none None e = (refl, refl)
part_none (Some n) e = absurd (e refl)

counted_alone : (s : Option Cell) → is_counted s ≡ true → (parent_of s ≡ None) × (children_of s ≡ [])
counted_alone None e = (refl, refl)
counted_alone (Some (ArrayCell vs of)) e = (refl, refl)
counted_alone (Some (DictCell es)) e = (refl, refl)
counted_alone (Some (ObjectCell o)) e = part_none o.node (counted_single (Some (ObjectCell o)) e)

pub cut_kin : (p : ℕ → Bool) (s : Option Cell) → IsKin s (cut_slot p s)
cut_kin p None = kin_itself None
cut_kin p (Some (ArrayCell vs of)) = kin_itself (Some (ArrayCell vs of))
cut_kin p (Some (DictCell es)) = kin_itself (Some (DictCell es))
cut_kin p (Some (ObjectCell o)) = record { lives = refl; parent = refl; children = refl; classed = λ k. k; single = refl; counted = refl }

pub cut_links : (p : ℕ → Bool) (s : Option Cell) → connections_of (cut_slot p s) ≡ filter (λ c. p c.target.0) (connections_of s)
cut_links p None = refl
cut_links p (Some (ArrayCell vs of)) = refl
cut_links p (Some (DictCell es)) = refl
cut_links p (Some (ObjectCell o)) = refl

goer_counted : (cells : List (Option Cell)) (held : List ℕ) (x : ℕ) → Goes cells held x → is_counted (cell_at cells x) ≡ true
goer_counted cells held w (goes x counted unheld places) = counted

module _ (h new : Heap) (w : IsSwept h new) where
  swept_parent : (x : ℕ) → parent_of (cell_at new.cells x) ≡ parent_of (cell_at h.cells x)
  swept_parent x = elim (w.cells x) [
    | inl went ↦ ap parent_of went.1 ∙ sym (counted_alone (cell_at h.cells x) (goer_counted h.cells h.held x went.0)).0
    | inr left ↦ ap parent_of left.1 ∙ (cut_kin (is_living new.cells) (cell_at h.cells x)).parent
  ]

  swept_children : (x : ℕ) → children_of (cell_at new.cells x) ≡ children_of (cell_at h.cells x)
  swept_children x = elim (w.cells x) [
    | inl went ↦ ap children_of went.1 ∙ sym (counted_alone (cell_at h.cells x) (goer_counted h.cells h.held x went.0)).1
    | inr left ↦ ap children_of left.1 ∙ (cut_kin (is_living new.cells) (cell_at h.cells x)).children
  ]

  pub swept_shaped : IsShaped h.cells → IsShaped new.cells
  swept_shaped s = shaped_as h.cells new.cells swept_parent swept_children
      (λ x. elim (w.cells x) [
        | inl went ↦ subst IsClassed (sym went.1) tt
        | inr left ↦ subst IsClassed (sym left.1) ((cut_kin (is_living new.cells) (cell_at h.cells x)).classed (s.classed x))
      ])
      (λ x.
      let P : List Connection → Type 0 = λ cs. All (λ c. is_living new.cells c.target.0 ≡ true) cs in
      elim (w.cells x) [
        | inl went ↦ subst P (sym (ap connections_of went.1)) (λ i d l. absurd (omega (arith, l)))
        | inr left ↦ subst P (sym (ap connections_of left.1 ∙ cut_links (is_living new.cells) (cell_at h.cells x))) (filter_passes (λ (c : Connection). is_living new.cells c.target.0) (connections_of (cell_at h.cells x)))
      ])
      (λ x signal to method. elim (w.cells x) [
        | inl went ↦ omega (arith, ap (λ s. times_linked signal to method (connections_of s)) went.1)
        | inr left ↦ omega (arith, ap (λ s. times_linked signal to method (connections_of s)) left.1, ap (times_linked signal to method) (cut_links (is_living new.cells) (cell_at h.cells x)), times_left (λ c. is_living new.cells c.target.0) signal to method (connections_of (cell_at h.cells x)), s.once x signal to method)
      ])
      s

  pub swept_queue : IsQueue h.cells h.queued → IsQueue new.cells h.queued
  swept_queue k = queue_as h.cells new.cells h.queued (omega (arith, w.serials)) (λ x l f g. elim (w.cells x) [
    | inl went ↦ absurd (false≢true (sym g ∙ goer_counted h.cells h.held x went.0))
    | inr left ↦ (ap is_no_container left.1 ∙ (cut_kin (is_living new.cells) (cell_at h.cells x)).single ∙ f, ap is_counted left.1 ∙ (cut_kin (is_living new.cells) (cell_at h.cells x)).counted ∙ g)
  ]) k
