-- What is true of a heap stays so.
use Rattle.std.proofs.Common.{All, Bool, not, ◌&&◌, ◌++◌, ◌≡◌, ℕ, ◌+◌, ◌<◌, ◌≤◌, ◌^◌, true, false, List, [], ◌∷◌, suc, length, set, refl, sym, ◌∙◌, ap, subst, Option, Some, None, is_some, arith, inl, inr}
use Rattle.std.specs.Prelude.{IfSome}
use Rattle.std.specs.List.{list_any}
use Rattle.std.proofs.lemmas.List.{length-map, get_or-set_same, get_or-set_other, get_or_past, get_or_append_left, get_or_push, length_push, set_past}
use Rattle.std.proofs.lemmas.List.Filters.{length-filter_both}
use Rattle.std.proofs.lemmas.List.Sums.{sum_by-set, sum_by-cons, sum_by_push}
use Rattle.std.proofs.lemmas.Bool.{cases_eq, cases_lt, false≢true}
use Rattle.variant_values.specs.declared.values.Serial.{Serial}
use Rattle.variant_values.specs.declared.values.Value.{Value}
use Rattle.variant_values.specs.declared.values.Key.{Key}
use Rattle.variant_values.specs.declared.cells.NodePart.{NodePart}
use Rattle.variant_values.specs.declared.cells.Connection.{Connection}
use Rattle.variant_values.specs.declared.cells.Cell.{Cell}
use Rattle.variant_values.specs.declared.cells.Cell.TheVariants.{Array as ArrayCell, Dict as DictCell, Object as ObjectCell}
use Rattle.variant_values.specs.Classes.{is_ref_counted}
use Rattle.variant_values.specs.Places.{is_counted, in_slot, slot_weight}
use Rattle.variant_values.specs.Sweeps.{Goes, goes, cut_slot, IsSwept}
use Rattle.variant_values.specs.Heaps.{Heap, is_object, knows_object, KnowsSlot, cell_at, is_living, field_put, items_put, entries_put, IsFresh}
use Rattle.variant_values.specs.Links.{connections_of, connections_put, connections_in}
use Rattle.variant_values.specs.Trees.{parent_in, parent_of, is_node, IsRooted}
use Rattle.ref_objects.specs.declared.slots.Slot.{Slot}
use Rattle.ref_objects.specs.Slots.{cells_of, heap_of, IsKept, IsSteady, IsNow, IsGrown, IsPut}
use Rattle.ref_objects.proofs.Swapping.{IsSameKind, IsSwapped, swapped_kept, swapped_held}

-- the cells as they were
pub steady_same : {links : ℕ} (a b : List Slot) (total total' : ℕ) → IsSteady a total links → IsKept b total' → cells_of b ≡ cells_of a → IsSteady b total' links
steady_same a b total total' s k e = record { kept = k; rooted = rw e s.rooted; few_links = rw e s.few_links; bound = s.bound }

-- where no cell has more connections, there are no more in all
pub fewer : (a b : List (Option Cell)) → length b ≡ length a → ((x : ℕ) → length (connections_of (cell_at b x)) ≤ length (connections_of (cell_at a x))) → connections_in b ≤ connections_in a
fewer [] [] e f = omega arith
fewer [] (t ∷ ts) e f = absurd (omega (arith, e))
fewer (s ∷ ss) [] e f = absurd (omega (arith, e))
fewer (s ∷ ss) (t ∷ ts) e f = omega (arith, sum_by-cons (λ w. length (connections_of w)) s ss, sum_by-cons (λ w. length (connections_of w)) t ts, f 0, fewer ss ts (omega (arith, e)) (λ x. f (suc x)))

-- another cell at x, which is as much of a node, with the same parent
pub rooted_put : (cells : List (Option Cell)) (x : ℕ) (t : Option Cell) → x < length cells → parent_of t ≡ parent_of (cell_at cells x) → is_node t ≡ is_node (cell_at cells x) → IsRooted cells → IsRooted (set cells x t)
rooted_put cells x t h p n r y q e = here q.0 ∙ r y q (sym (there y) ∙ e)
  where
    here : (y : ℕ) → is_node (cell_at (set cells x t) y) ≡ is_node (cell_at cells y)
    here y = elim (cases_eq x y) [
      | inl same ↦ subst (λ z. is_node (cell_at (set cells x t) z) ≡ is_node (cell_at cells z)) same (ap is_node (get_or-set_same cells x t None h) ∙ n)
      | inr ne ↦ ap is_node (get_or-set_other cells x y t None (λ e. ne (sym e)))
    ]

    there : (y : ℕ) → parent_of (cell_at (set cells x t) y) ≡ parent_of (cell_at cells y)
    there y = elim (cases_eq x y) [
      | inl same ↦ subst (λ z. parent_of (cell_at (set cells x t) z) ≡ parent_of (cell_at cells z)) same (ap parent_of (get_or-set_same cells x t None h) ∙ p)
      | inr ne ↦ ap parent_of (get_or-set_other cells x y t None (λ e. ne (sym e)))
    ]

pub steady_put : {links : ℕ} (a b : List Slot) (x total total' : ℕ) (t : Option Cell) → IsSteady a total links → IsKept b total' → cells_of b ≡ set (cells_of a) x t → parent_of t ≡ parent_of (cell_at (cells_of a) x) → is_node t ≡ is_node (cell_at (cells_of a) x) → connections_of t ≡ connections_of (cell_at (cells_of a) x) → IsSteady b total' links
steady_put a b x total total' t s k e p n l = elim (cases_lt x (length (cells_of a))) [
  | inl within ↦ record {
    kept = k;
    rooted = rw e (rooted_put (cells_of a) x t within p n s.rooted);
    few_links = rw e (omega (arith, sum_by-set (λ w. length (connections_of w)) (cells_of a) x t None within, ap length l, s.few_links));
    bound = s.bound;
  }
  | inr past ↦ steady_same a b total total' s k (e ∙ set_past (cells_of a) x t past)
]

-- what two cells have beside values is the same
pub record IsApart (s t : Option Cell) : Type 0 where
  pub parent : parent_of t ≡ parent_of s
  pub node : is_node t ≡ is_node s
  pub links : connections_of t ≡ connections_of s

pub field_apart : (i : ℕ) (v : Value) (s : Option Cell) → IsApart s (field_put i v s)
field_apart i v None = record { parent = refl; node = refl; links = refl }
field_apart i v (Some (ArrayCell vs of)) = record { parent = refl; node = refl; links = refl }
field_apart i v (Some (DictCell es)) = record { parent = refl; node = refl; links = refl }
field_apart i v (Some (ObjectCell o)) = record { parent = refl; node = refl; links = refl }

pub items_apart : (vs : List Value) (s : Option Cell) → IsApart s (items_put vs s)
items_apart vs None = record { parent = refl; node = refl; links = refl }
items_apart vs (Some (ArrayCell ws of)) = record { parent = refl; node = refl; links = refl }
items_apart vs (Some (DictCell es)) = record { parent = refl; node = refl; links = refl }
items_apart vs (Some (ObjectCell o)) = record { parent = refl; node = refl; links = refl }

pub entries_apart : (es : List (Key × Value)) (s : Option Cell) → IsApart s (entries_put es s)
entries_apart es None = record { parent = refl; node = refl; links = refl }
entries_apart es (Some (ArrayCell ws of)) = record { parent = refl; node = refl; links = refl }
entries_apart es (Some (DictCell fs)) = record { parent = refl; node = refl; links = refl }
entries_apart es (Some (ObjectCell o)) = record { parent = refl; node = refl; links = refl }

pub steady_now : {links : ℕ} (a b : List Slot) (x total total' : ℕ) (t : Option Cell) → IsSteady a total links → IsNow a b total' (set (cells_of a) x t) → IsApart (cell_at (cells_of a) x) t → IsSteady b total' links
steady_now a b x total total' t s n p = steady_put a b x total total' t s n.kept n.cells_are p.parent p.node p.links

-- a cell more, which is new
fresh_parent : (c : Cell) → IsFresh c → parent_of (Some c) ≡ None
fresh_parent (ArrayCell vs of) f = refl
fresh_parent (DictCell es) f = refl
fresh_parent (ObjectCell o) f = none o.node f.3
  where
    none : (n : Option NodePart) → IfSome n (λ n. (n.parent ≡ None) × (n.children ≡ [])) → parent_in n ≡ None
    none None g = refl
    none (Some n) g = g.0

fresh_links : (c : Cell) → IsFresh c → length (connections_of (Some c)) ≡ 0
fresh_links (ArrayCell vs of) f = refl
fresh_links (DictCell es) f = refl
fresh_links (ObjectCell o) f = ap length f.0

node_within : (cells : List (Option Cell)) (x : ℕ) → is_node (cell_at cells x) ≡ true → x < length cells
node_within cells x n = elim (cases_lt x (length cells)) [ inl h ↦ h | inr h ↦ absurd (false≢true (sym (ap is_node (get_or_past cells x None h)) ∙ n)) ]

pub rooted_grown : (cells : List (Option Cell)) (c : Cell) → IsFresh c → IsRooted cells → IsRooted (cells ++ Some c ∷ [])
rooted_grown cells c f r y q e = elim (cases_lt y (length cells)) [
  | inl h ↦
      let n : is_node (cell_at cells q.0) ≡ true = r y q (sym (ap parent_of (get_or_append_left cells (Some c ∷ []) None y h)) ∙ e) in
      ap is_node (get_or_append_left cells (Some c ∷ []) None q.0 (node_within cells q.0 n)) ∙ n
  | inr h ↦ elim (cases_eq (length cells) y) [
    | inl same ↦ absurd (false≢true (ap is_some (sym (fresh_parent c f) ∙ sym (ap parent_of (get_or_push cells (Some c) None y same)) ∙ e)))
    | inr ne ↦ absurd (false≢true (ap is_some (sym (ap parent_of (get_or_past (cells ++ Some c ∷ []) y None (omega (arith, length_push cells (Some c), h, ne)))) ∙ e)))
  ]
]

pub steady_grown : {links : ℕ} (a b : List Slot) (total total' : ℕ) (c : Cell) → IsSteady a total links → IsFresh c → IsGrown a b total' c → IsSteady b total' links
steady_grown a b total total' c s f g = record {
  kept = g.kept;
  rooted = rw g.cells_are (rooted_grown (cells_of a) c f s.rooted);
  few_links = rw g.cells_are (omega (arith, sum_by_push (λ w. length (connections_of w)) (cells_of a) (Some c), fresh_links c f, s.few_links));
  bound = s.bound;
}

-- a sweep
pub cut_parent : (p : ℕ → Bool) (s : Option Cell) → parent_of (cut_slot p s) ≡ parent_of s
cut_parent p None = refl
cut_parent p (Some (ArrayCell vs of)) = refl
cut_parent p (Some (DictCell es)) = refl
cut_parent p (Some (ObjectCell o)) = refl

pub cut_node : (p : ℕ → Bool) (s : Option Cell) → is_node (cut_slot p s) ≡ is_node s
cut_node p None = refl
cut_node p (Some (ArrayCell vs of)) = refl
cut_node p (Some (DictCell es)) = refl
cut_node p (Some (ObjectCell o)) = refl

pub cut_fewer : (p : ℕ → Bool) (s : Option Cell) → length (connections_of (cut_slot p s)) ≤ length (connections_of s)
cut_fewer p None = omega arith
cut_fewer p (Some (ArrayCell vs of)) = omega arith
cut_fewer p (Some (DictCell es)) = omega arith
cut_fewer p (Some (ObjectCell o)) = omega (arith, length-filter_both (λ c. p c.target.0) (λ c. not (p c.target.0)) (λ c. refl) o.connections)

pub node_uncounted : (s : Option Cell) → is_node s ≡ true → is_counted s ≡ false
node_uncounted None n = refl
node_uncounted (Some (ArrayCell vs of)) n = absurd (false≢true n)
node_uncounted (Some (DictCell es)) n = absurd (false≢true n)
node_uncounted (Some (ObjectCell o)) n = ap (λ b. list_any is_ref_counted o.lineage && not b) n ∙ and_false (list_any is_ref_counted o.lineage)
  where
    and_false : (b : Bool) → b && false ≡ false
    and_false true = refl
    and_false false = refl

goer_counted : (cells : List (Option Cell)) (held : List ℕ) (x : ℕ) → Goes cells held x → is_counted (cell_at cells x) ≡ true
goer_counted cells held w (goes x counted unheld places) = counted

module _ (h new : Heap) (s : IsSwept h new) where
  swept_parent : (x : ℕ) (p : Serial) → parent_of (cell_at new.cells x) ≡ Some p → parent_of (cell_at h.cells x) ≡ Some p
  swept_parent x p e = elim (s.cells x) [
    | inl went ↦ absurd (false≢true (ap is_some (sym (ap parent_of went.1) ∙ e)))
    | inr left ↦ sym (cut_parent (is_living new.cells) (cell_at h.cells x)) ∙ sym (ap parent_of left.1) ∙ e
  ]

  swept_node : (x : ℕ) → is_node (cell_at h.cells x) ≡ true → is_node (cell_at new.cells x) ≡ true
  swept_node x n = elim (s.cells x) [
    | inl went ↦ absurd (false≢true (sym (node_uncounted (cell_at h.cells x) n) ∙ goer_counted h.cells h.held x went.0))
    | inr left ↦ ap is_node left.1 ∙ cut_node (is_living new.cells) (cell_at h.cells x) ∙ n
  ]

  pub swept_rooted : IsRooted h.cells → IsRooted new.cells
  swept_rooted r x p e = swept_node p.0 (r x p (swept_parent x p e))

  pub swept_fewer : connections_in new.cells ≤ connections_in h.cells
  swept_fewer = fewer h.cells new.cells s.serials (λ x. elim (s.cells x) [
    | inl went ↦ omega (arith, ap (λ w. length (connections_of w)) went.1)
    | inr left ↦ omega (arith, ap (λ w. length (connections_of w)) left.1, cut_fewer (is_living new.cells) (cell_at h.cells x))
  ])

pub steady_swept : {links : ℕ} (a b : List Slot) (q : List Serial) (total total' : ℕ) → IsSteady a total links → IsKept b total' → IsSwept (heap_of a q) (heap_of b q) → IsSteady b total' links
steady_swept a b q total total' s k w = record {
  kept = k;
  rooted = swept_rooted (heap_of a q) (heap_of b q) w s.rooted;
  few_links = omega (arith, swept_fewer (heap_of a q) (heap_of b q) w, s.few_links);
  bound = s.bound;
}

-- a cell is another with the same values
pub put_now : (a c : List Slot) (x total : ℕ) (t : Option Cell) → x < length a → IsKept a total → IsPut a c x t → IsSameKind (cell_at (cells_of a) x) t → ((y : ℕ) → in_slot y t ≡ in_slot y (cell_at (cells_of a) x)) → slot_weight t ≡ slot_weight (cell_at (cells_of a) x) → KnowsSlot (cells_of a) t → IsNow a c total (set (cells_of a) x t)
put_now a c x total t h k p kind places weighs known =
    let s : IsSwapped a c x t = record { within = h; cells = p.cells; kind = kind; counts = λ y l. omega (arith, p.counts y, places y); gone = λ y l. p.counts y } in
    record {
      kept = swapped_kept a c x t s total total k known (omega (arith, weighs)) k.light;
      cells_are = p.cells;
      held = swapped_held a c x t s total k;
    }

-- what a change of connections or of the node part leaves
links_kind : (cs : List Connection) (s : Option Cell) → IsSameKind s (connections_put cs s)
links_kind cs None = record { array = refl; dict = refl; object = refl; alive = refl }
links_kind cs (Some (ArrayCell vs of)) = record { array = refl; dict = refl; object = refl; alive = refl }
links_kind cs (Some (DictCell es)) = record { array = refl; dict = refl; object = refl; alive = refl }
links_kind cs (Some (ObjectCell o)) = record { array = refl; dict = refl; object = refl; alive = refl }

links_places : (cs : List Connection) (y : ℕ) (s : Option Cell) → in_slot y (connections_put cs s) ≡ in_slot y s
links_places cs y None = refl
links_places cs y (Some (ArrayCell vs of)) = refl
links_places cs y (Some (DictCell es)) = refl
links_places cs y (Some (ObjectCell o)) = refl

links_weight : (cs : List Connection) (s : Option Cell) → slot_weight (connections_put cs s) ≡ slot_weight s
links_weight cs None = refl
links_weight cs (Some (ArrayCell vs of)) = refl
links_weight cs (Some (DictCell es)) = refl
links_weight cs (Some (ObjectCell o)) = refl

links_known : (cells : List (Option Cell)) (cs : List Connection) (s : Option Cell) → (is_object s ≡ true → All (λ c. knows_object cells c.target ≡ true) cs) → KnowsSlot cells s → KnowsSlot cells (connections_put cs s)
links_known cells cs None n k = k
links_known cells cs (Some (ArrayCell vs of)) n k = k
links_known cells cs (Some (DictCell es)) n k = k
links_known cells cs (Some (ObjectCell o)) n k = (k.0, n refl, k.2)

links_parent : (cs : List Connection) (s : Option Cell) → parent_of (connections_put cs s) ≡ parent_of s
links_parent cs None = refl
links_parent cs (Some (ArrayCell vs of)) = refl
links_parent cs (Some (DictCell es)) = refl
links_parent cs (Some (ObjectCell o)) = refl

links_node : (cs : List Connection) (s : Option Cell) → is_node (connections_put cs s) ≡ is_node s
links_node cs None = refl
links_node cs (Some (ArrayCell vs of)) = refl
links_node cs (Some (DictCell es)) = refl
links_node cs (Some (ObjectCell o)) = refl

links_are : (cs : List Connection) (s : Option Cell) → is_object s ≡ true → connections_of (connections_put cs s) ≡ cs
links_are cs None e = absurd (false≢true e)
links_are cs (Some (ArrayCell vs of)) e = absurd (false≢true e)
links_are cs (Some (DictCell es)) e = absurd (false≢true e)
links_are cs (Some (ObjectCell o)) e = refl

pub links_before : (cells : List (Option Cell)) (s : Option Cell) → is_object s ≡ true → KnowsSlot cells s → All (λ c. knows_object cells c.target ≡ true) (connections_of s)
links_before cells None e k = absurd (false≢true e)
links_before cells (Some (ArrayCell vs of)) e k = absurd (false≢true e)
links_before cells (Some (DictCell es)) e k = absurd (false≢true e)
links_before cells (Some (ObjectCell o)) e k = k.1

pub links_now : (a c : List Slot) (x total : ℕ) (cs : List Connection) → x < length a → IsKept a total → IsPut a c x (connections_put cs (cell_at (cells_of a) x)) → All (λ c. knows_object (cells_of a) c.target ≡ true) cs → IsNow a c total (set (cells_of a) x (connections_put cs (cell_at (cells_of a) x)))
links_now a c x total cs h k p n = put_now a c x total _ h k p (links_kind cs (cell_at (cells_of a) x)) (λ y. links_places cs y (cell_at (cells_of a) x)) (links_weight cs (cell_at (cells_of a) x)) (links_known (cells_of a) cs (cell_at (cells_of a) x) (λ e. n) (k.known x))

-- an object has other connections, and no more than may stand
pub links_steady : {before : ℕ} (a c : List Slot) (x total links : ℕ) (cs : List Connection) → x < length a → is_object (cell_at (cells_of a) x) ≡ true → IsSteady a total before → IsNow a c total (set (cells_of a) x (connections_put cs (cell_at (cells_of a) x))) → connections_in (cells_of a) + length cs ≤ links + length (connections_of (cell_at (cells_of a) x)) → links < 2 ^ 32 → IsSteady c total links
links_steady a c x total links cs h o s n few bound =
    let within : x < length (cells_of a) = rw (length-map a (λ s. s.cell)) h in
    let t = connections_put cs (cell_at (cells_of a) x) in
    record {
      kept = n.kept;
      rooted = rw n.cells_are (rooted_put (cells_of a) x t within (links_parent cs (cell_at (cells_of a) x)) (links_node cs (cell_at (cells_of a) x)) s.rooted);
      few_links = rw n.cells_are (omega (arith, sum_by-set (λ w. length (connections_of w)) (cells_of a) x t None within, ap length (links_are cs (cell_at (cells_of a) x) o), few));
      bound = bound;
    }
