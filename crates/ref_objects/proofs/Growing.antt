-- A cell is given the next serial.
use Rattle.std.proofs.Common.{[], ◌∷◌, ◌++◌, ◌≡◌, ℕ, zero, suc, ◌+◌, ◌-◌, ◌^◌, ◌<◌, ◌≤◌, true, false, cond, List, length, get_or, set, refl, sym, ◌∙◌, ap, subst, Option, Some, None, is_some, arith, inl, inr, All}
use Rattle.std.specs.List.{sum_by}
use Rattle.std.proofs.lemmas.List.{map-set, map_push, set_at, length-set, length-map, length_push, get_or_push, get_or_append_left, get_or_past, get_or_default}
use Rattle.std.proofs.lemmas.List.Sums.{sum_by_push, sum_by-cons}
use Rattle.std.proofs.lemmas.List.Elements.{All-head, All-tail}
use Rattle.std.proofs.lemmas.Bool.{cases_eq, cases_lt, cases_Bool, false≢true, ne_eqb}
use Rattle.variant_values.specs.declared.cells.Cell.{Cell}
use Rattle.variant_values.specs.declared.cells.Cell.TheVariants.{Array as ArrayCell, Dict as DictCell, Object as ObjectCell}
use Rattle.variant_values.specs.Places.{place_of, key_place, one_at, in_value, in_entry, in_cell, in_slot, in_cells, cell_weight, slot_weight, weight}
use Rattle.variant_values.specs.Heaps.{cell_at, KnowsCell, KnowsSlot}
use Rattle.ref_objects.specs.declared.slots.Slot.{Slot}
use Rattle.ref_objects.specs.Slots.{gone, slot_at, count_at, cells_of, lives, held_of, IsKept, IsRaised, IsGrown, IsCellWithin}
use Rattle.ref_objects.proofs.Raising.{lives-cells}
use Rattle.ref_objects.proofs.Holding.{held_is, length-held_of, get_or-held_of, lives_within}
use Rattle.ref_objects.proofs.Weights.{in_cells_le, in_cell_le}
use Rattle.ref_objects.proofs.Knowing.{cell_within}
use Rattle.variant_values.proofs.Knowing.{slot_grows}
use Rattle.ref_objects.proofs.Cutting.{count-put}

-- nothing holds a serial that was not given
sum_zero : {X : Type 0} (f : X → ℕ) (xs : List X) → All (λ x. f x ≡ 0) xs → sum_by f xs ≡ 0
sum_zero f [] a = refl
sum_zero f (x ∷ xs) a = omega (arith, sum_by-cons f x xs, All-head (λ x. f x ≡ 0) x xs a, sum_zero f xs (All-tail (λ x. f x ≡ 0) x xs a))

not_at : (n p : ℕ) → p < n → one_at n p ≡ 0
not_at n p h = ap (λ b. cond b 1 0) (ne_eqb p n (λ e. omega (arith, h, e)))

cell_zero : (n : ℕ) (c : Cell) → IsCellWithin n c → in_cell n c ≡ 0
cell_zero n (ArrayCell vs of) w = sum_zero (in_value n) vs (λ i d l. not_at n (place_of (get_or vs i d)) (w i d l))
cell_zero n (DictCell es) w = sum_zero (in_entry n) es (λ i d l. omega (arith, not_at n (key_place (get_or es i d).0) (w i d l).0, not_at n (place_of (get_or es i d).1) (w i d l).1))
cell_zero n (ObjectCell o) w = sum_zero (in_value n) o.fields (λ i d l. not_at n (place_of (get_or o.fields i d)) (w i d l))

slot_zero : (cells : List (Option Cell)) (s : Option Cell) → 0 < length cells → KnowsSlot cells s → in_slot (length cells) s ≡ 0
slot_zero cells None h k = refl
slot_zero cells (Some c) h k = cell_zero (length cells) c (cell_within cells (length cells) c refl h k)

cells_zero : (cells : List (Option Cell)) → 0 < length cells → ((x : ℕ) → KnowsSlot cells (cell_at cells x)) → in_cells (length cells) cells ≡ 0
cells_zero cells h k = sum_zero (in_slot (length cells)) cells (λ i d l. rw (get_or_default cells i d None l) (slot_zero cells (cell_at cells i) h (k i)))

count-push : (a : List Slot) (y : ℕ) → count_at (a ++ gone ∷ []) y ≡ count_at a y
count-push [] zero = refl
count-push [] (suc y) = refl
count-push (s ∷ ss) zero = refl
count-push (s ∷ ss) (suc y) = count-push ss y

lives-push : (a : List Slot) (y : ℕ) → lives (a ++ gone ∷ []) y ≡ lives a y
lives-push [] zero = refl
lives-push [] (suc y) = refl
lives-push (s ∷ ss) zero = refl
lives-push (s ∷ ss) (suc y) = lives-push ss y

pub room_for : (a : List Slot) (total y : ℕ) (c : Cell) → IsKept a total → cell_weight c < 2 ^ 63 → count_at (a ++ gone ∷ []) y + in_cell y c < 2 ^ 128
room_for a total y c k light = omega (arith, count-push a y, k.few y, k.weighed, k.light, in_cells_le y (cells_of a), in_cell_le y c, light)

pub grown_within : (a : List Slot) (total : ℕ) (c : Cell) → IsKept a total → KnowsCell (cells_of a) c → IsCellWithin (length (a ++ gone ∷ [])) c
grown_within a total c k n = cell_within (cells_of (a ++ gone ∷ [])) (length (a ++ gone ∷ [])) c (sym (length-map (a ++ gone ∷ []) (λ s. s.cell))) (rw length-map (omega (arith, length_push a gone))) (rw map_push (slot_grows (cells_of a) None (Some c) n))

module _ (a c d : List Slot) (total w : ℕ) (cell : Cell) (k : IsKept a total) (n : KnowsCell (cells_of a) cell) (up : IsRaised (a ++ gone ∷ []) c (λ y. in_cell y cell)) (put : d ≡ set c (length a) (record (slot_at c (length a)) { cell = Some cell })) (w_is : w ≡ cell_weight cell) (small : total + w ≤ 67108864) where
  length_c : length c ≡ length a + 1
  length_c = sym (length-map c (λ s. s.cell)) ∙ ap length up.cells ∙ length-map (a ++ gone ∷ []) (λ s. s.cell) ∙ length_push a gone

  cells_d : cells_of d ≡ cells_of a ++ Some cell ∷ []
  cells_d = ap cells_of put ∙ map-set (λ s. s.cell) c (length a) _ ∙ ap (λ cells. set cells (length a) (Some cell)) (up.cells ∙ map_push (λ s. s.cell) a gone) ∙ set_at (cells_of a) None [] (Some cell) (length a) (length-map a (λ s. s.cell))

  counts : (y : ℕ) → count_at d y ≡ count_at a y + cond (lives a y) (in_cell y cell) 0
  counts y = ap (λ s. count_at s y) put ∙ count-put c (length a) y (Some cell) (omega (arith, length_c)) ∙ up.counts y ∙ rw (count-push a y, lives-push a y) refl

  lives_before : (y : ℕ) → y < length a → lives d y ≡ lives a y
  lives_before y h = sym (lives-cells d y) ∙ ap (λ cells. is_some (get_or cells y None)) cells_d ∙ ap is_some (get_or_append_left (cells_of a) (Some cell ∷ []) None y (rw length-map h)) ∙ lives-cells a y

  lives_new : lives d (length a) ≡ true
  lives_new = sym (lives-cells d (length a)) ∙ ap (λ cells. is_some (get_or cells (length a) None)) cells_d ∙ ap is_some (get_or_push (cells_of a) (Some cell) None (length a) (length-map a (λ s. s.cell)))

  places : (y : ℕ) → in_cells y (cells_of d) ≡ in_cells y (cells_of a) + in_cell y cell
  places y = ap (in_cells y) cells_d ∙ sum_by_push (in_slot y) (cells_of a) (Some cell)

  gone_past : (y : ℕ) → length a ≤ y → lives a y ≡ false
  gone_past y h = ap (λ s. is_some s.cell) (get_or_past a y gone h)

  none_new : in_cells (length a) (cells_of d) ≡ 0
  none_new =
      let e : length (cells_of a) ≡ length a = length-map a (λ s. s.cell) in
      let P : ℕ → Type 0 = λ m. in_cells m (cells_of a) ≡ 0 in
      let Q : ℕ → Type 0 = λ m. in_cell m cell ≡ 0 in
      let old : in_cells (length a) (cells_of a) ≡ 0 = subst P e (cells_zero (cells_of a) (rw length-map k.some) k.known) in
      let fresh : in_cell (length a) cell ≡ 0 = subst Q e (slot_zero (cells_of a) (Some cell) (rw length-map k.some) n) in
      omega (arith, places (length a), old, fresh)

  held_each : (y : ℕ) → count_at d y - in_cells y (cells_of d) ≡ count_at a y - in_cells y (cells_of a)
  held_each y = elim (cases_Bool (lives a y)) [
    | inl l ↦ omega (arith, rw l at (counts y), places y)
    | inr l ↦ omega (arith, rw l at (counts y), k.gone y l)
  ]

  pub grown : IsGrown a d (total + w) cell
  grown = record {
    kept = record {
      some = omega (arith, ap length put, length-set c (length a) (record (slot_at c (length a)) { cell = Some cell }), length_c);
      first = lives_before 0 k.some ∙ k.first;
      gone = λ y l. elim (cases_Bool (lives a y)) [
        | inl m ↦ absurd (false≢true (sym l ∙ lives_before y (lives_within a y m) ∙ m))
        | inr m ↦ omega (arith, rw m at (counts y), k.gone y m)
      ];
      counted = λ y l. elim (cases_Bool (lives a y)) [
        | inl m ↦ omega (arith, rw m at (counts y), places y, k.counted y m)
        | inr m ↦ elim (cases_eq (length a) y) [
          | inl e ↦ subst (λ z. in_cells z (cells_of d) ≤ count_at d z) e (omega (arith, none_new))
          | inr ne ↦ elim (cases_lt y (length a)) [
            | inl h ↦ absurd (false≢true (sym m ∙ sym (lives_before y h) ∙ l))
            | inr h ↦ absurd (let within = lives_within d y l in omega (arith, within, ap length put, length-set c (length a) (record (slot_at c (length a)) { cell = Some cell }), length_c, h, ne))
          ]
        ]
      ];
      few = λ y. elim (cases_Bool (lives a y)) [
        | inl m ↦ omega (arith, rw m at (counts y), places y, k.few y)
        | inr m ↦ omega (arith, rw m at (counts y), k.gone y m)
      ];
      weighed = omega (arith, ap weight cells_d, sum_by_push slot_weight (cells_of a) (Some cell), k.weighed, w_is);
      light = small;
      known = λ x. rw cells_d (known_at x);
    };
    cells_are = cells_d;
    held = held_is d (held_of a ++ 0 ∷ []) (length_push (held_of a) 0 ∙ omega (arith, length-held_of a, ap length put, length-set c (length a) (record (slot_at c (length a)) { cell = Some cell }), length_c)) (λ y. held_push (held_of a) y ∙ get_or-held_of a y ∙ sym (held_each y));
  }
    where
      held_push : (hs : List ℕ) (y : ℕ) → get_or (hs ++ 0 ∷ []) y 0 ≡ get_or hs y 0
      held_push [] zero = refl
      held_push [] (suc y) = refl
      held_push (h ∷ hs) zero = refl
      held_push (h ∷ hs) (suc y) = held_push hs y

      known_at : (x : ℕ) → KnowsSlot (cells_of a ++ Some cell ∷ []) (cell_at (cells_of a ++ Some cell ∷ []) x)
      known_at x = elim (cases_lt x (length (cells_of a))) [
        | inl h ↦ rw (get_or_append_left (cells_of a) (Some cell ∷ []) None x h) (slot_grows (cells_of a) (Some cell) (cell_at (cells_of a) x) (k.known x))
        | inr h ↦ elim (cases_eq (length (cells_of a)) x) [
          | inl e ↦ rw (get_or_push (cells_of a) (Some cell) None x e) (slot_grows (cells_of a) (Some cell) (Some cell) n)
          | inr ne ↦ rw (get_or_past (cells_of a ++ Some cell ∷ []) x None (omega (arith, length_push (cells_of a) (Some cell), h, ne))) tt
        ]
      ]
