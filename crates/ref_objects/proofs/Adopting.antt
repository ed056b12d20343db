-- The node part of an object changes.
use Rattle.std.proofs.Common.{◌≡◌, ℕ, ◌<◌, ◌≤◌, true, List, length, set, refl, sym, ◌∙◌, ap, subst, Option, Some, None, is_some, arith, inl, inr}
use Rattle.std.specs.Option.{option_map}
use Rattle.std.proofs.lemmas.List.{length-map, length-set, get_or-set_same, get_or-set_other, get_or_past}
use Rattle.std.proofs.lemmas.List.Elements.{All-push}
use Rattle.std.proofs.lemmas.Bool.{cases_eq, cases_lt, false≢true}
use Rattle.variant_values.specs.declared.values.Serial.{Serial}
use Rattle.variant_values.specs.declared.cells.NodePart.{NodePart}
use Rattle.variant_values.specs.declared.cells.Cell.{Cell}
use Rattle.variant_values.specs.declared.cells.Cell.TheVariants.{Array as ArrayCell, Dict as DictCell, Object as ObjectCell}
use Rattle.variant_values.specs.Places.{in_slot, slot_weight}
use Rattle.variant_values.specs.Heaps.{Heap, cell_at, is_object, knows_object, KnowsNode, KnowsSlot}
use Rattle.variant_values.specs.Links.{connections_of, connections_in}
use Rattle.variant_values.specs.Trees.{parent_of, parent_in, is_node, node_put, named, placed, adopted, with_name, with_child, IsRooted, IsUnder, itself}
use Rattle.ref_objects.specs.declared.slots.Slot.{Slot}
use Rattle.ref_objects.specs.Slots.{cells_of, heap_of, IsKept, IsSteady, IsNow, IsPut}
use Rattle.ref_objects.proofs.Holding.{same_heap}
use Rattle.ref_objects.proofs.Swapping.{IsSameKind}
use Rattle.ref_objects.proofs.Steady.{IsApart, put_now, steady_now, fewer}
use Rattle.ref_objects.proofs.Linking.{object_known}

node_kind : (f : NodePart → NodePart) (s : Option Cell) → IsSameKind s (node_put f s)
node_kind f None = record { array = refl; dict = refl; object = refl; alive = refl }
node_kind f (Some (ArrayCell vs of)) = record { array = refl; dict = refl; object = refl; alive = refl }
node_kind f (Some (DictCell es)) = record { array = refl; dict = refl; object = refl; alive = refl }
node_kind f (Some (ObjectCell o)) = record { array = refl; dict = refl; object = refl; alive = refl }

node_places : (f : NodePart → NodePart) (y : ℕ) (s : Option Cell) → in_slot y (node_put f s) ≡ in_slot y s
node_places f y None = refl
node_places f y (Some (ArrayCell vs of)) = refl
node_places f y (Some (DictCell es)) = refl
node_places f y (Some (ObjectCell o)) = refl

node_weight : (f : NodePart → NodePart) (s : Option Cell) → slot_weight (node_put f s) ≡ slot_weight s
node_weight f None = refl
node_weight f (Some (ArrayCell vs of)) = refl
node_weight f (Some (DictCell es)) = refl
node_weight f (Some (ObjectCell o)) = refl

part_known : (cells : List (Option Cell)) (f : NodePart → NodePart) (n : Option NodePart) → ((m : NodePart) → KnowsNode cells (Some m) → KnowsNode cells (Some (f m))) → KnowsNode cells n → KnowsNode cells (option_map f n)
part_known cells f None g k = tt
part_known cells f (Some n) g k = g n k

node_known : (cells : List (Option Cell)) (f : NodePart → NodePart) (s : Option Cell) → ((m : NodePart) → KnowsNode cells (Some m) → KnowsNode cells (Some (f m))) → KnowsSlot cells s → KnowsSlot cells (node_put f s)
node_known cells f None g k = k
node_known cells f (Some (ArrayCell vs of)) g k = k
node_known cells f (Some (DictCell es)) g k = k
node_known cells f (Some (ObjectCell o)) g k = (k.0, k.1, part_known cells f o.node g k.2)

part_parent : (f : NodePart → NodePart) (n : Option NodePart) → ((m : NodePart) → (f m).parent ≡ m.parent) → parent_in (option_map f n) ≡ parent_in n
part_parent f None e = refl
part_parent f (Some n) e = e n

part_some : (f : NodePart → NodePart) (n : Option NodePart) → is_some (option_map f n) ≡ is_some n
part_some f None = refl
part_some f (Some n) = refl

node_parent : (f : NodePart → NodePart) (s : Option Cell) → ((m : NodePart) → (f m).parent ≡ m.parent) → parent_of (node_put f s) ≡ parent_of s
node_parent f None e = refl
node_parent f (Some (ArrayCell vs of)) e = refl
node_parent f (Some (DictCell es)) e = refl
node_parent f (Some (ObjectCell o)) e = part_parent f o.node e

pub node_node : (f : NodePart → NodePart) (s : Option Cell) → is_node (node_put f s) ≡ is_node s
node_node f None = refl
node_node f (Some (ArrayCell vs of)) = refl
node_node f (Some (DictCell es)) = refl
node_node f (Some (ObjectCell o)) = part_some f o.node

node_links : (f : NodePart → NodePart) (s : Option Cell) → connections_of (node_put f s) ≡ connections_of s
node_links f None = refl
node_links f (Some (ArrayCell vs of)) = refl
node_links f (Some (DictCell es)) = refl
node_links f (Some (ObjectCell o)) = refl

pub node_apart : (f : NodePart → NodePart) (s : Option Cell) → ((m : NodePart) → (f m).parent ≡ m.parent) → IsApart s (node_put f s)
node_apart f s e = record { parent = node_parent f s e; node = node_node f s; links = node_links f s }

pub node_object : (s : Option Cell) → is_node s ≡ true → is_object s ≡ true
node_object None n = absurd (false≢true n)
node_object (Some (ArrayCell vs of)) n = absurd (false≢true n)
node_object (Some (DictCell es)) n = absurd (false≢true n)
node_object (Some (ObjectCell o)) n = refl

node_within : (cells : List (Option Cell)) (x : ℕ) → is_node (cell_at cells x) ≡ true → x < length cells
node_within cells x n = elim (cases_lt x (length cells)) [ inl h ↦ h | inr h ↦ absurd (false≢true (sym (ap is_node (get_or_past cells x None h)) ∙ n)) ]

pub nodes_now : (a c : List Slot) (x total : ℕ) (f : NodePart → NodePart) → x < length a → IsKept a total → IsPut a c x (node_put f (cell_at (cells_of a) x)) → ((m : NodePart) → KnowsNode (cells_of a) (Some m) → KnowsNode (cells_of a) (Some (f m))) → IsNow a c total (set (cells_of a) x (node_put f (cell_at (cells_of a) x)))
nodes_now a c x total f h k p g = put_now a c x total _ h k p (node_kind f (cell_at (cells_of a) x)) (λ y. node_places f y (cell_at (cells_of a) x)) (node_weight f (cell_at (cells_of a) x)) (node_known (cells_of a) f (cell_at (cells_of a) x) g (k.known x))

-- a name
module _ (a c : List Slot) (x total links : ℕ) (q : List Serial) (h : Heap) (e : heap_of a q ≡ h) (node : is_node (cell_at h.cells x) ≡ true) (s : IsSteady a total links) (name : List ℕ) (p : IsPut a c x (node_put (named name) (cell_at (cells_of a) x))) where
  within : x < length a
  within = subst (λ n. x < n) (length-map a (λ s. s.cell)) (node_within (cells_of a) x (subst (λ (g : Heap). is_node (cell_at g.cells x) ≡ true) (sym e) node))

  named_now : IsNow a c total (set (cells_of a) x (node_put (named name) (cell_at (cells_of a) x)))
  named_now = nodes_now a c x total (named name) within s.kept p (λ m k. k)

  pub named_steady : IsSteady c total links
  named_steady = steady_now a c x total total _ s named_now (node_apart (named name) (cell_at (cells_of a) x) (λ m. refl))

  pub named_heap : heap_of c q ≡ with_name h x name
  named_heap = same_heap _ _ _ _ q named_now.cells_are named_now.held ∙ ap (λ g. with_name g x name) e

-- a parent
part_placed : (p q : Serial) (n : Option NodePart) → parent_in (option_map (placed p) n) ≡ Some q → p ≡ q
part_placed p q None e = absurd (false≢true (ap is_some e))
part_placed p q (Some n) e = cc

node_placed : (p q : Serial) (s : Option Cell) → parent_of (node_put (placed p) s) ≡ Some q → p ≡ q
node_placed p q None e = absurd (false≢true (ap is_some e))
node_placed p q (Some (ArrayCell vs of)) e = absurd (false≢true (ap is_some e))
node_placed p q (Some (DictCell es)) e = absurd (false≢true (ap is_some e))
node_placed p q (Some (ObjectCell o)) e = part_placed p q o.node e

rooted_placed : (cells : List (Option Cell)) (x : ℕ) (p : Serial) → x < length cells → is_node (cell_at cells p.0) ≡ true → IsRooted cells → IsRooted (set cells x (node_put (placed p) (cell_at cells x)))
rooted_placed cells x p h n r y q e = still q.0 (elim (cases_eq x y) [
  | inl same ↦ ap (λ (z : Serial). is_node (cell_at cells z.0)) (sym (node_placed p q (cell_at cells x) (sym (ap parent_of (get_or-set_same cells x (node_put (placed p) (cell_at cells x)) None h)) ∙ ap (λ z. parent_of (cell_at (set cells x (node_put (placed p) (cell_at cells x))) z)) same ∙ e))) ∙ n
  | inr ne ↦ r y q (sym (ap parent_of (get_or-set_other cells x y (node_put (placed p) (cell_at cells x)) None (λ e. ne (sym e)))) ∙ e)
])
  where
    still : (z : ℕ) → is_node (cell_at cells z) ≡ true → is_node (cell_at (set cells x (node_put (placed p) (cell_at cells x))) z) ≡ true
    still z m = elim (cases_eq x z) [
      | inl same ↦ subst (λ w. is_node (cell_at (set cells x (node_put (placed p) (cell_at cells x))) w) ≡ true) same (ap is_node (get_or-set_same cells x (node_put (placed p) (cell_at cells x)) None h) ∙ node_node (placed p) (cell_at cells x) ∙ ap (λ w. is_node (cell_at cells w)) same ∙ m)
      | inr ne ↦ ap is_node (get_or-set_other cells x z (node_put (placed p) (cell_at cells x)) None (λ e. ne (sym e))) ∙ m
    ]

-- a node becomes a child
module _ (a b c : List Slot) (parent child : Serial) (total links : ℕ) (q : List Serial) (h : Heap) (e : heap_of a q ≡ h) (above : is_node (cell_at h.cells parent.0) ≡ true) (node : is_node (cell_at h.cells child.0) ≡ true) (apart : IsUnder h.cells child.0 parent.0 → ⊥) (s : IsSteady a total links) (p : IsPut a b parent.0 (node_put (adopted child) (cell_at (cells_of a) parent.0))) (p' : IsPut b c child.0 (node_put (placed parent) (cell_at (cells_of b) child.0))) where
  above_a : is_node (cell_at (cells_of a) parent.0) ≡ true
  above_a = subst (λ (g : Heap). is_node (cell_at g.cells parent.0) ≡ true) (sym e) above

  node_a : is_node (cell_at (cells_of a) child.0) ≡ true
  node_a = subst (λ (g : Heap). is_node (cell_at g.cells child.0) ≡ true) (sym e) node

  within_a : parent.0 < length (cells_of a)
  within_a = node_within (cells_of a) parent.0 above_a

  adopted_now : IsNow a b total (set (cells_of a) parent.0 (node_put (adopted child) (cell_at (cells_of a) parent.0)))
  adopted_now = nodes_now a b parent.0 total (adopted child) (subst (λ n. parent.0 < n) (length-map a (λ s. s.cell)) within_a) s.kept p (λ m k. (k.0, All-push (λ s. knows_object (cells_of a) s ≡ true) m.children child k.1 (object_known a total child s (node_object (cell_at (cells_of a) child.0) node_a))))

  steady_b : IsSteady b total links
  steady_b = steady_now a b parent.0 total total _ s adopted_now (node_apart (adopted child) (cell_at (cells_of a) parent.0) (λ m. refl))

  two : parent.0 ≡ child.0 → ⊥
  two same = apart (subst (λ y. IsUnder h.cells child.0 y) (sym same) itself)

  child_same : cell_at (cells_of b) child.0 ≡ cell_at (cells_of a) child.0
  child_same = ap (λ cells. cell_at cells child.0) adopted_now.cells_are ∙ get_or-set_other (cells_of a) parent.0 child.0 _ None (λ d. two (sym d))

  node_b : is_node (cell_at (cells_of b) child.0) ≡ true
  node_b = ap is_node child_same ∙ node_a

  above_b : is_node (cell_at (cells_of b) parent.0) ≡ true
  above_b = ap (λ cells. is_node (cell_at cells parent.0)) adopted_now.cells_are ∙ ap is_node (get_or-set_same (cells_of a) parent.0 (node_put (adopted child) (cell_at (cells_of a) parent.0)) None within_a) ∙ node_node (adopted child) (cell_at (cells_of a) parent.0) ∙ above_a

  within_b : child.0 < length (cells_of b)
  within_b = node_within (cells_of b) child.0 node_b

  placed_now : IsNow b c total (set (cells_of b) child.0 (node_put (placed parent) (cell_at (cells_of b) child.0)))
  placed_now = nodes_now b c child.0 total (placed parent) (subst (λ n. child.0 < n) (length-map b (λ s. s.cell)) within_b) steady_b.kept p' (λ m k. (object_known b total parent steady_b (node_object (cell_at (cells_of b) parent.0) above_b), k.1))

  pub child_steady : IsSteady c total links
  child_steady = record {
    kept = placed_now.kept;
    rooted = rw placed_now.cells_are (rooted_placed (cells_of b) child.0 parent within_b above_b steady_b.rooted);
    few_links = omega (arith, links_c, steady_b.few_links);
    bound = s.bound;
  }
    where
      links_c : connections_in (cells_of c) ≤ connections_in (cells_of b)
      links_c = rw placed_now.cells_are (fewer (cells_of b) (set (cells_of b) child.0 (node_put (placed parent) (cell_at (cells_of b) child.0))) (length-set (cells_of b) child.0 _) (λ x. elim (cases_eq child.0 x) [
        | inl same ↦ subst (λ z. length (connections_of (cell_at (set (cells_of b) child.0 (node_put (placed parent) (cell_at (cells_of b) child.0))) z)) ≤ length (connections_of (cell_at (cells_of b) z))) same (omega (arith, ap (λ w. length (connections_of w)) (get_or-set_same (cells_of b) child.0 (node_put (placed parent) (cell_at (cells_of b) child.0)) None within_b), ap length (node_links (placed parent) (cell_at (cells_of b) child.0))))
        | inr ne ↦ omega (arith, ap (λ w. length (connections_of w)) (get_or-set_other (cells_of b) child.0 x (node_put (placed parent) (cell_at (cells_of b) child.0)) None (λ e. ne (sym e))))
      ]))

  pub child_heap : heap_of c q ≡ with_child h parent child
  child_heap =
      let cells : cells_of c ≡ (with_child (heap_of a q) parent child).cells = placed_now.cells_are ∙ ap (λ s. set (cells_of b) child.0 (node_put (placed parent) s)) child_same ∙ ap (λ d. set d child.0 (node_put (placed parent) (cell_at (cells_of a) child.0))) adopted_now.cells_are in
      same_heap _ _ _ _ q cells (placed_now.held ∙ adopted_now.held) ∙ ap (λ g. with_child g parent child) e
