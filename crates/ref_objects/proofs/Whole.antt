-- What is true of a whole heap stays so.
use Rattle.std.proofs.Common.{◌≡◌, ℕ, true, false, not, List, [], ◌∷◌, ◌++◌, zero, suc, set, refl, sym, ◌∙◌, ap, subst, Option, None, is_some, arith}
use Rattle.std.specs.Prelude.{Result, Ok, Err, OnOk, OnErr}
use Rattle.std.specs.List.{list_any}
use Rattle.std.proofs.lemmas.Bool.{false≢true}
use Rattle.std.proofs.lemmas.List.Elements.{All-push}
use Rattle.variant_values.specs.declared.faults.Trouble.{Trouble}
use Rattle.variant_values.specs.declared.values.Serial.{Serial}
use Rattle.variant_values.specs.declared.cells.Connection.{Connection}
use Rattle.variant_values.specs.declared.cells.Cell.{Cell}
use Rattle.variant_values.specs.Places.{is_counted}
use Rattle.variant_values.specs.Heaps.{Heap, cell_at, is_living, is_object, knows_object, IsFresh, KnowsSlot}
use Rattle.variant_values.specs.Links.{connections_of, is_connection, connected, disconnected}
use Rattle.variant_values.specs.Sound.{IsShaped, IsQueue}
use Rattle.variant_values.specs.Sweeps.{IsSwept}
use Rattle.variant_values.specs.Trees.{IsFreed, IsUnder, is_node, parent_of, root, with_child, with_name, node_put, named}
use Rattle.ref_objects.specs.declared.slots.Slot.{Slot}
use Rattle.ref_objects.specs.Slots.{cells_of, gone, heap_of, slot_at, IsGrown, IsSteady, IsWhole}
use Rattle.ref_objects.proofs.Adopting.{node_object}
use Rattle.ref_objects.proofs.Linking.{object_known}
use Rattle.ref_objects.proofs.Steady.{node_uncounted}
use Rattle.ref_objects.proofs.Shaping.{IsKin, node_kin, put_children, put_parent, queue_grown, queue_put, links_kin, shaped_grown, shaped_linked, shaped_put, shaped_unlinked, swept_queue, swept_shaped}
use Rattle.ref_objects.proofs.Family.{child_queue, child_shaped, freed_queue, freed_shaped}

nowhere : (x : ℕ) → cell_at (None ∷ []) x ≡ None
nowhere zero = refl
nowhere (suc x) = refl

-- no cells
pub shaped_none : IsShaped (None ∷ [])
shaped_none = record {
  family = λ p x. rw (nowhere p, nowhere x) refl;
  grounded = λ x. root x (ap parent_of (nowhere x));
  targets = λ x. rw (nowhere x) (λ i d l. absurd (omega (arith, l)));
  once = λ x signal to method. rw (nowhere x) (omega arith);
  classed = λ x. rw (nowhere x) tt;
}

pub queue_none : (cells : List (Option Cell)) → IsQueue cells []
queue_none cells = λ i d l. absurd (omega (arith, l))

nowhere_slot : (x : ℕ) → slot_at (gone ∷ []) x ≡ gone
nowhere_slot zero = refl
nowhere_slot (suc x) = refl

steady_none : IsSteady (gone ∷ []) 0 0
steady_none = record {
  kept = record {
    some = omega arith;
    first = refl;
    gone = λ x l. ap (λ s. s.count) (nowhere_slot x);
    counted = λ x l. absurd (false≢true (sym (ap (λ s. is_some s.cell) (nowhere_slot x)) ∙ l));
    few = λ x. omega (arith, ap (λ s. s.count) (nowhere_slot x));
    weighed = refl;
    light = omega arith;
    known = λ x. subst (KnowsSlot (None ∷ [])) (sym (nowhere x)) tt;
  };
  rooted = λ x p e. absurd (false≢true (ap is_some (sym (ap parent_of (nowhere x)) ∙ e)));
  few_links = omega arith;
  bound = omega arith;
}

pub whole_none : (slots : List Slot) (q : List Serial) → slots ≡ gone ∷ [] → q ≡ [] → IsWhole slots q 0 0
whole_none slots q e f =
    let P : List Slot → Type 0 = λ s. IsWhole s q 0 0 in
    let Q : List Serial → Type 0 = λ r. IsWhole (gone ∷ []) r 0 0 in
    subst P (sym e) (subst Q (sym f) (record { steady = steady_none; shaped = shaped_none; queue = queue_none (None ∷ []) }))

-- the cells as they were
pub whole_same : {links : ℕ} (a b : List Slot) (total total' : ℕ) (q : List Serial) → IsWhole a q total links → IsSteady b total' links → cells_of b ≡ cells_of a → IsWhole b q total' links
whole_same a b total total' q w s e = record { steady = s; shaped = subst IsShaped (sym e) w.shaped; queue = subst (λ (d : List (Option Cell)). IsQueue d q) (sym e) w.queue }

-- another cell at x, which stands as it did
pub whole_put : {links links' : ℕ} (a b : List Slot) (x total total' : ℕ) (t : Option Cell) (q : List Serial) → IsWhole a q total links → IsSteady b total' links' → cells_of b ≡ set (cells_of a) x t → IsKin (cell_at (cells_of a) x) t → connections_of t ≡ connections_of (cell_at (cells_of a) x) → IsWhole b q total' links'
whole_put a b x total total' t q w s e k links = record {
  steady = s;
  shaped = subst IsShaped (sym e) (shaped_put (cells_of a) x t k links w.shaped);
  queue = subst (λ (d : List (Option Cell)). IsQueue d q) (sym e) (queue_put (cells_of a) x t q k.single k.counted w.queue);
}

-- a cell more
pub whole_grown : {links : ℕ} (a b : List Slot) (total total' : ℕ) (c : Cell) (q : List Serial) → IsWhole a q total links → IsSteady b total' links → IsFresh c → IsGrown a b total' c → IsWhole b q total' links
whole_grown a b total total' c q w s f g = record {
  steady = s;
  shaped = subst IsShaped (sym g.cells_are) (shaped_grown (cells_of a) c f w.shaped);
  queue = subst (λ (d : List (Option Cell)). IsQueue d q) (sym g.cells_are) (queue_grown (cells_of a) c q w.queue);
}

pub whole_swept : {links : ℕ} (a b : List Slot) (total total' : ℕ) (q : List Serial) → IsWhole a q total links → IsSteady b total' links → IsSwept (heap_of a q) (heap_of b q) → IsWhole b q total' links
whole_swept a b total total' q w s swept = record {
  steady = s;
  shaped = swept_shaped (heap_of a q) (heap_of b q) swept w.shaped;
  queue = swept_queue (heap_of a q) (heap_of b q) swept w.queue;
}

pub whole_freed : {links : ℕ} (a b : List Slot) (total total' x : ℕ) (q : List Serial) → IsWhole a q total links → IsSteady b total' links → IsFreed (heap_of a q) (heap_of b q) x → IsWhole b q total' links
whole_freed a b total total' x q w s freed = record {
  steady = s;
  shaped = freed_shaped (heap_of a q) (heap_of b q) x freed w.shaped;
  queue = freed_queue (heap_of a q) (heap_of b q) x freed q w.queue;
}

module _ {links : ℕ} (a : List Slot) (q : List Serial) (total : ℕ) (h : Heap) (e : heap_of a q ≡ h) (w : IsWhole a q total links) where
  pub shaped_of : IsShaped h.cells
  shaped_of = subst (λ (g : Heap). IsShaped g.cells) e w.shaped

  pub queue_of : IsQueue h.cells q
  queue_of = subst (λ (g : Heap). IsQueue g.cells q) e w.queue

  -- a node more is to be freed
  pub whole_queued : (s : Serial) → is_node (cell_at h.cells s.0) ≡ true → IsWhole a (q ++ s ∷ []) total links
  whole_queued s node =
      let here : is_node (cell_at (cells_of a) s.0) ≡ true = subst (λ (g : Heap). is_node (cell_at g.cells s.0) ≡ true) (sym e) node in
      record { steady = w.steady; shaped = w.shaped; queue = All-push (λ s. (knows_object (cells_of a) s ≡ true) × (is_counted (cell_at (cells_of a) s.0) ≡ false)) q s w.queue (object_known a total s w.steady (node_object (cell_at (cells_of a) s.0) here), node_uncounted (cell_at (cells_of a) s.0) here) }

  module _ {links' : ℕ} (b : List Slot) (total' : ℕ) (s : IsSteady b total' links') where
    -- what the heap is now
    whole_now : (g : Heap) → heap_of b q ≡ g → IsShaped g.cells → IsQueue g.cells q → IsWhole b q total' links'
    whole_now g f shaped queue = record {
      steady = s;
      shaped = subst (λ (d : Heap). IsShaped d.cells) (sym f) shaped;
      queue = subst (λ (d : Heap). IsQueue d.cells q) (sym f) queue;
    }

    pub whole_named : (x : ℕ) (name : List ℕ) → heap_of b q ≡ with_name h x name → IsWhole b q total' links'
    whole_named x name f =
        let k = node_kin (named name) (cell_at h.cells x) in
        let kin : IsKin (cell_at h.cells x) (node_put (named name) (cell_at h.cells x)) = record { lives = k.lives; parent = put_parent (named name) (cell_at h.cells x) (λ m. refl); children = put_children (named name) (cell_at h.cells x) (λ m. refl); classed = k.classed; single = k.single; counted = k.counted } in
        whole_now (with_name h x name) f (shaped_put h.cells x _ kin k.links shaped_of) (queue_put h.cells x _ q k.single k.counted queue_of)

    pub whole_child : (parent kid : Serial) → is_node (cell_at h.cells parent.0) ≡ true → is_node (cell_at h.cells kid.0) ≡ true → parent_of (cell_at h.cells kid.0) ≡ None → (IsUnder h.cells kid.0 parent.0 → ⊥) → heap_of b q ≡ with_child h parent kid → IsWhole b q total' links'
    whole_child parent kid above node orphan apart f = whole_now (with_child h parent kid) f (child_shaped h parent kid above node orphan apart shaped_of) (child_queue h parent kid above node orphan apart q queue_of)

    pub whole_linked : (x : ℕ) (c : Connection) → is_object (cell_at h.cells x) ≡ true → is_living h.cells c.target.0 ≡ true → list_any (is_connection c.signal c.target c.method) (connections_of (cell_at h.cells x)) ≡ false → heap_of b q ≡ connected h x c → IsWhole b q total' links'
    whole_linked x c object lives fresh f =
        let k = links_kin (connections_of (cell_at h.cells x) ++ c ∷ []) (cell_at h.cells x) in
        whole_now (connected h x c) f (shaped_linked h.cells x c object lives fresh shaped_of) (queue_put h.cells x _ q k.single k.counted queue_of)

    -- a connection more, where there was memory for it
    pub whole_added : (x : ℕ) (c : Connection) → is_object (cell_at h.cells x) ≡ true → is_living h.cells c.target.0 ≡ true → list_any (is_connection c.signal c.target c.method) (connections_of (cell_at h.cells x)) ≡ false → (r : Result (Unit {0}) Trouble) → OnOk r (heap_of b q ≡ connected h x c) → OnErr r (b ≡ a) → IsWhole b q total' links'
    whole_added x c object lives fresh (Ok u) f same = whole_linked x c object lives fresh f
    whole_added x c object lives fresh (Err t) f same = record {
      steady = s;
      shaped = subst (λ (d : List Slot). IsShaped (cells_of d)) (sym same) w.shaped;
      queue = subst (λ (d : List Slot). IsQueue (cells_of d) q) (sym same) w.queue;
    }

    pub whole_unlinked : (x : ℕ) (signal : List ℕ) (to : Serial) (method : List ℕ) → is_object (cell_at h.cells x) ≡ true → heap_of b q ≡ disconnected h x signal to method → IsWhole b q total' links'
    whole_unlinked x signal to method object f =
        let g = disconnected h x signal to method in
        whole_now g f (shaped_unlinked h.cells x (λ c. not (is_connection signal to method c)) object shaped_of) (queue_put h.cells x _ q (links_kin _ (cell_at h.cells x)).single (links_kin _ (cell_at h.cells x)).counted queue_of)
