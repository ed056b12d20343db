-- What is known and held stays known over a sweep.
use Rattle.std.proofs.Common.{◌≡◌, ℕ, zero, suc, ◌+◌, ◌<◌, ◌≤◌, true, false, cond, nat_eq, List, [], ◌∷◌, length, get_or, refl, sym, ◌∙◌, ap, subst, Option, Some, None, is_some, arith, inl, inr}
use Rattle.std.specs.Prelude.{IfSome}
use Rattle.std.specs.List.{sum_by}
use Rattle.std.proofs.lemmas.List.{get_or_past}
use Rattle.std.proofs.lemmas.List.Elements.{All-filter}
use Rattle.std.proofs.lemmas.List.FromFn.{length-map-range_with_len, get_or-map-range_with_len}
use Rattle.std.proofs.lemmas.List.Sums.{get_or-le-sum_by, sum_by-cons}
use Rattle.std.proofs.lemmas.Bool.{cases_Bool, cases_lt, eq-eqb, eqb-true, false≢true}
use Rattle.variant_values.specs.declared.cells.Cell.{Cell}
use Rattle.variant_values.specs.declared.cells.Cell.TheVariants.{Array as ArrayCell, Dict as DictCell, Object as ObjectCell}
use Rattle.variant_values.specs.declared.cells.NodePart.{NodePart}
use Rattle.variant_values.specs.declared.values.Key.{Key}
use Rattle.variant_values.specs.declared.values.Key.TheVariants.{Bool as KeyTruth, Int as KeyInt, Str as KeyStr, Object as KeyObject}
use Rattle.variant_values.specs.declared.values.Serial.{Serial}
use Rattle.variant_values.specs.declared.values.Value.{Value}
use Rattle.variant_values.specs.declared.values.Value.TheVariants.{Null, Bool as Truth, Int, Str, Array, Dict, Object, Callable, Signal, Class, Scene, Weak}
use Rattle.variant_values.specs.Heaps.{Heap, cell_at, holding, is_array, is_dict, is_living, knows, knows_key, knows_object, KnowsAll, KnowsEntries, KnowsNode, KnowsSlot}
use Rattle.variant_values.specs.Places.{in_entry, in_slot, in_value, in_values, is_counted, one_at, place_of}
use Rattle.variant_values.specs.Sweeps.{Goes, goes, cut_slot, IsSwept, swept}
use Rattle.variant_values.proofs.Lasting.{held_stays, named_stays, value_lasts}
use Rattle.variant_values.proofs.Rounds.{swept_is}
use Rattle.script_meaning.specs.State.{World, Frame, heap_of, holds_of, sweep}
use Rattle.script_laws.specs.Cells.{AreKnown}
use Rattle.script_laws.specs.Knowing.{Covers, IsLater, Stays}

-- what is held of a cell
at_holding : (cells : List (Option Cell)) (vs : List Value) (x : ℕ) → get_or (holding cells vs) x 0 ≡ cond (is_living cells x) (in_values x vs) 0
at_holding cells vs x = elim (cases_lt x (length cells)) [
  | inl h ↦ get_or-map-range_with_len (λ y. cond (is_living cells y) (in_values y vs) 0) 0 (length cells) x x 0 h (omega arith)
  | inr h ↦ get_or_past (holding cells vs) x 0 (omega (arith, h, length-map-range_with_len (λ y. cond (is_living cells y) (in_values y vs) 0) 0 (length cells))) ∙ ap (λ s. cond (is_some s) (in_values x vs) 0) (sym (get_or_past cells x None h))
]

one_here : (x : ℕ) → one_at x x ≡ 1
one_here x = ap {B = ℕ} (λ b. cond b 1 0) (eq-eqb x x refl)

not_zero : (x : ℕ) → nat_eq (suc x) 0 ≡ false
not_zero x = elim (cases_Bool (nat_eq (suc x) 0)) [
  | inl same ↦ absurd (omega (arith, eqb-true (suc x) 0 same))
  | inr other ↦ other
]

array_lives : (s : Option Cell) → is_array s ≡ true → is_some s ≡ true
array_lives None a = a
array_lives (Some c) a = refl

dict_lives : (s : Option Cell) → is_dict s ≡ true → is_some s ≡ true
dict_lives None a = a
dict_lives (Some c) a = refl

none_counted : (s : Option Cell) → s ≡ None → is_counted s ≡ true → ⊥
none_counted s e c = false≢true (sym (ap is_counted e) ∙ c)

module _ (frames : List Frame) (w : World) (k : AreKnown w.cells) where
  abbrev h : Heap
  h = heap_of frames w

  abbrev new : Heap
  new = swept h

  is : IsSwept h new
  is = swept_is h

  -- the place 0 has no cell
  first_stays : (x : ℕ) → x ≡ 0 → Goes h.cells h.held x → ⊥
  first_stays x e (goes y counted unheld places) = none_counted (cell_at w.cells y) (ap (cell_at w.cells) e ∙ k.first) counted

  -- a living cell that the frames hold
  held_cell : (x : ℕ) → is_living w.cells x ≡ true → 0 < in_values x (holds_of frames) → Goes h.cells h.held x → ⊥
  held_cell x l n = held_stays h.cells h.held x (omega (arith, n, at_holding w.cells (holds_of frames) x, ap (λ b. cond b (in_values x (holds_of frames)) 0) l))

  positive : (n : ℕ) → (n ≡ 0 → ⊥) → 0 < n
  positive zero f = absurd (f refl)
  positive (suc n) f = omega arith

  -- a container that the frames hold; its values are not at 0
  container_stays : (x : ℕ) (v : Value) → place_of v ≡ x → is_living w.cells x ≡ true → Covers (cond (nat_eq x 0) [] (v ∷ [])) (holds_of frames) → Goes h.cells h.held x → ⊥
  container_stays zero v e l c = absurd (false≢true (sym (ap is_some k.first) ∙ l))
  container_stays (suc x) v e l c = held_cell (suc x) l (positive (in_values (suc x) (holds_of frames)) (λ none.
      let unheld : in_values (suc x) (v ∷ []) ≡ 0 = subst (λ b. in_values (suc x) (cond b [] (v ∷ [])) ≡ 0) (not_zero x) (c x none) in
      let first : in_values (suc x) (v ∷ []) ≡ one_at (suc x) (place_of v) + in_values (suc x) [] = sum_by-cons (in_value (suc x)) v [] in
      let here : one_at (suc x) (place_of v) ≡ one_at (suc x) (suc x) = ap (one_at (suc x)) e in
      absurd (omega (arith, unheld, first, here, one_here (suc x)))))

  pub object_lasts : (s : Serial) → knows_object w.cells s ≡ true → knows_object new.cells s ≡ true
  object_lasts s n = value_lasts h new is (Callable s []) (first_stays 0 refl) n

  -- a value of a cell that stays
  stays_known : (v : Value) → (Goes h.cells h.held (place_of v) → ⊥) → knows w.cells v ≡ true → knows new.cells v ≡ true
  stays_known v n q = value_lasts h new is v n q

  held_known : (v : Value) → Stays (holds_of frames) v → knows w.cells v ≡ true → knows new.cells v ≡ true
  held_known (Array s) c n = stays_known (Array s) (container_stays s.0 (Array s) refl (array_lives (cell_at w.cells s.0) n) c) n
  held_known (Dict s) c n = stays_known (Dict s) (container_stays s.0 (Dict s) refl (dict_lives (cell_at w.cells s.0) n) c) n
  held_known (Object s) c n = object_lasts s n
  held_known Null c n = refl
  held_known (Truth b) c n = refl
  held_known (Int i) c n = refl
  held_known (Str t) c n = refl
  held_known (Callable s m) c n = object_lasts s n
  held_known (Signal s m) c n = object_lasts s n
  held_known (Class c) d n = refl
  held_known (Scene f p) c n = refl
  held_known (Weak s) c n = object_lasts s n

  -- ---- what cells that stay name

  key_lasts : (q : Key) → knows_key w.cells q ≡ true → knows_key new.cells q ≡ true
  key_lasts (KeyTruth b) n = refl
  key_lasts (KeyInt i) n = refl
  key_lasts (KeyStr t) n = refl
  key_lasts (KeyObject s) n = object_lasts s n

  module _ (x : ℕ) (there : Goes h.cells h.held x → ⊥) where
    named : (y : ℕ) (v : Value) → place_of v ≡ y → 0 < in_slot y (cell_at w.cells x) → knows w.cells v ≡ true → knows new.cells v ≡ true
    named y v e some n = stays_known v (λ g. named_stays h.cells h.held y x some there (subst (Goes h.cells h.held) e g)) n

    values_last : (vs : List Value) → ((y : ℕ) → in_values y vs ≤ in_slot y (cell_at w.cells x)) → KnowsAll w.cells vs → KnowsAll new.cells vs
    values_last vs inside n = λ i d l.
        let v : Value = get_or vs i d in
        named (place_of v) v refl (omega (arith, one_here (place_of v), get_or-le-sum_by (in_value (place_of v)) vs i d l, inside (place_of v))) (n i d l)

    entries_last : (es : List (Key × Value)) → ((y : ℕ) → sum_by (in_entry y) es ≤ in_slot y (cell_at w.cells x)) → KnowsEntries w.cells es → KnowsEntries new.cells es
    entries_last es inside n = λ i d l.
        let e : Key × Value = get_or es i d in
        let y : ℕ = place_of e.1 in
        (key_lasts e.0 (n i d l).0, named y e.1 refl (omega (arith, one_here y, get_or-le-sum_by (in_entry y) es i d l, inside y)) (n i d l).1)

    parent_lasts : (p : Option Serial) → IfSome p (λ s. knows_object w.cells s ≡ true) → IfSome p (λ s. knows_object new.cells s ≡ true)
    parent_lasts None n = tt
    parent_lasts (Some s) n = object_lasts s n

    node_lasts : (p : Option NodePart) → KnowsNode w.cells p → KnowsNode new.cells p
    node_lasts None n = tt
    node_lasts (Some p) n = (parent_lasts p.parent n.0, λ i d l. object_lasts (get_or p.children i d) (n.1 i d l))

    slot_lasts : (s : Option Cell) → cell_at w.cells x ≡ s → KnowsSlot w.cells s → KnowsSlot new.cells (cut_slot (is_living new.cells) s)
    slot_lasts None e n = tt
    slot_lasts (Some (ArrayCell vs of)) e n = values_last vs (λ y. omega (arith, ap (in_slot y) e)) n
    slot_lasts (Some (DictCell es)) e n = entries_last es (λ y. omega (arith, ap (in_slot y) e)) n
    slot_lasts (Some (ObjectCell o)) e n = (
      values_last o.fields (λ y. omega (arith, ap (in_slot y) e)) n.0,
      All-filter (λ c. is_living new.cells c.target.0) (λ c. knows_object new.cells c.target ≡ true) o.connections (λ i d l. object_lasts (get_or o.connections i d).target (n.1 i d l)),
      node_lasts o.node n.2,
    )

  cell_after : (x : ℕ) → KnowsSlot new.cells (cell_at new.cells x)
  cell_after x = elim (is.cells x) [
    | inl went ↦ subst (KnowsSlot new.cells) (sym went.1) tt
    | inr left ↦ subst (KnowsSlot new.cells) (sym left.1) (slot_lasts x left.0 (cell_at w.cells x) refl (k.each x))
  ]

  gone_after : (x : ℕ) → cell_at w.cells x ≡ None → cell_at new.cells x ≡ None
  gone_after x e = elim (is.cells x) [
    | inl went ↦ went.1
    | inr left ↦ left.1 ∙ ap (cut_slot (is_living new.cells)) e
  ]

  pub sweep_known : AreKnown (sweep frames w).cells
  sweep_known = record { first = gone_after 0 k.first; some = omega (arith, k.some, is.serials); each = cell_after }

  pub sweep_later : IsLater (holds_of frames) w.cells (sweep frames w).cells
  sweep_later = record { serials = omega (arith, is.serials); gone = λ x l e. gone_after x e; stays = held_known }
