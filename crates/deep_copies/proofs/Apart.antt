-- What is copied by levels is a deep copy, where no container stands deeper.
use Rattle.std.proofs.Common.{◌≡◌, ℕ, zero, suc, ◌+◌, ◌∙◌, ap, sym, subst, refl, Bool, true, false, List, [], ◌∷◌, ◌++◌, length, Option, Some, None, arith}
use Rattle.std.proofs.lemmas.List.{get_or_push, length_push}
use Rattle.std.proofs.lemmas.List.Elements.{All-head, All-tail}
use Rattle.variant_values.specs.declared.cells.Cell.{Cell}
use Rattle.variant_values.specs.declared.cells.Cell.TheVariants.{Array as ArrayCell, Dict as DictCell}
use Rattle.variant_values.specs.declared.values.Key.{Key}
use Rattle.variant_values.specs.declared.values.Serial.{Serial}
use Rattle.variant_values.specs.declared.values.Value.{Value}
use Rattle.variant_values.specs.declared.values.Value.TheVariants.{Array, Dict}
use Rattle.variant_values.specs.Changes.{next_serial}
use Rattle.variant_values.specs.Copies.{copied, copied_items, copied_entries, new_array_of, new_dict_of}
use Rattle.variant_values.specs.ElementTypes.{element_of}
use Rattle.variant_values.specs.Heaps.{Heap, cell_at, items_of, entries_of, knows, knows_key, KnowsAll, KnowsEntries, KnowsSlot}
use Rattle.variant_values.specs.Sound.{IsSound}
use Rattle.variant_values.specs.ValueTexts.{count_items, with_count, items_in, is_within, most_levels}
use Rattle.variant_values.proofs.Knowing.{array_within, dict_within}
use Rattle.deep_copies.specs.CopyWeights.{array_copy, dict_copy}
use Rattle.deep_copies.specs.DeepCopies.{AreCopies, IsDeepCopy, keys_of, values_of}
use Rattle.deep_copies.proofs.Growth.{IsGrown, grown_none, grown_then, grown_cell, grown_new, grown_length, items_grown, entries_grown, copied_grown}
use Rattle.deep_copies.proofs.Levels.{by_kind, copied-zero, copied-suc}
use Rattle.deep_copies.proofs.Weights.{items_known, entries_known}

-- ---- counts that are there

record IsCounted (o : Option ℕ) : Type 0 where
  pub count : ℕ
  pub is : o ≡ Some count

first_counted : (a b : Option ℕ) → IsCounted (with_count a b) → IsCounted a
first_counted None b c = c
first_counted (Some x) b c = record { count = x; is = refl }

second_counted : (a b : Option ℕ) → IsCounted (with_count a b) → IsCounted b
second_counted None b c = absurd (none_counted c.count c.is)
  where
    none_counted : (n : ℕ) → None ≡ Some n → ⊥
    none_counted n e = cc
second_counted (Some x) None c = c
second_counted (Some x) (Some y) c = record { count = y; is = refl }

within_counted : (o : Option ℕ) → is_within o ≡ true → IsCounted o
within_counted None e = cc
within_counted (Some n) e = record { count = n; is = refl }

array_counted : (n : ℕ) (cells : List (Option Cell)) (s : Serial) → IsCounted (items_in (suc n) cells (Array s)) → IsCounted (count_items (items_in n cells) (items_of (cell_at cells s.0)))
unfolding items_in
array_counted n cells s c = c

dict_counted : (n : ℕ) (cells : List (Option Cell)) (s : Serial) → IsCounted (items_in (suc n) cells (Dict s)) → IsCounted (count_items {A = Key × Value} (λ e. items_in n cells e.1) (entries_of (cell_at cells s.0)))
unfolding items_in
dict_counted n cells s c = c

array_uncounted : (cells : List (Option Cell)) (s : Serial) → IsCounted (items_in zero cells (Array s)) → ⊥
unfolding items_in
array_uncounted cells s c = let e = c.is in cc

dict_uncounted : (cells : List (Option Cell)) (s : Serial) → IsCounted (items_in zero cells (Dict s)) → ⊥
unfolding items_in
dict_uncounted cells s c = let e = c.is in cc

-- ---- copies

-- a value and its copy, before more of both
abbrev Copies : List (Option Cell) → Heap → Value → Value × Heap → Type 0
Copies base h v copy = (new : List (Option Cell)) → IsGrown copy.1.cells new → (vs ws : List Value) → AreCopies base new vs ws → AreCopies base new (v ∷ vs) (copy.0 ∷ ws)

abbrev AllCopies : List (Option Cell) → ℕ → Type 0
AllCopies base n = (h : Heap) → IsGrown base h.cells → (v : Value) → knows base v ≡ true → IsCounted (items_in n base v) → Copies base h v (copied n h v)

module _ (base : List (Option Cell)) (n : ℕ) (copies : AllCopies base n) where
  items_copied : (h : Heap) (vs : List Value) → IsGrown base h.cells → KnowsAll base vs → IsCounted (count_items (items_in n base) vs) → (new : List (Option Cell)) → IsGrown (copied_items (copied n) h vs).1.cells new → AreCopies base new vs (copied_items (copied n) h vs).0
  items_copied h [] g k c new more = AreCopies.none
  items_copied h (v ∷ vs) g k c new more =
      let after = (copied n h v).1 in
      let one = second_counted (Some 1) (items_in n base v) (first_counted (with_count (Some 1) (items_in n base v)) (count_items (items_in n base) vs) c) in
      let others = second_counted (with_count (Some 1) (items_in n base v)) (count_items (items_in n base) vs) c in
      copies h g v (All-head (λ w. knows base w ≡ true) v vs k) one new (grown_then after.cells _ new (items_grown (copied n) (copied_grown n) after vs) more) vs _
      (items_copied after vs (grown_then base h.cells after.cells g (copied_grown n h v)) (All-tail (λ w. knows base w ≡ true) v vs k) others new more)

  entries_copied : (h : Heap) (es : List (Key × Value)) → IsGrown base h.cells → KnowsEntries base es → IsCounted (count_items {A = Key × Value} (λ e. items_in n base e.1) es) → (new : List (Option Cell)) → IsGrown (copied_entries (copied n) h es).1.cells new → AreCopies base new (values_of es) (values_of (copied_entries (copied n) h es).0)
  entries_copied h [] g k c new more = AreCopies.none
  entries_copied h (e ∷ es) g k c new more =
      let after = (copied n h e.1).1 in
      let one = second_counted (Some 1) (items_in n base e.1) (first_counted (with_count (Some 1) (items_in n base e.1)) (count_items {A = Key × Value} (λ f. items_in n base f.1) es) c) in
      let others = second_counted (with_count (Some 1) (items_in n base e.1)) (count_items {A = Key × Value} (λ f. items_in n base f.1) es) c in
      copies h g e.1 (All-head (λ f. (knows_key base f.0 ≡ true) × (knows base f.1 ≡ true)) e es k).1 one new (grown_then after.cells _ new (entries_grown (copied n) (copied_grown n) after es) more) (values_of es) _
      (entries_copied after es (grown_then base h.cells after.cells g (copied_grown n h e.1)) (All-tail (λ f. (knows_key base f.0 ≡ true) × (knows base f.1 ≡ true)) e es k) others new more)

  keys_copied : (h : Heap) (es : List (Key × Value)) → keys_of (copied_entries (copied n) h es).0 ≡ keys_of es
  keys_copied h [] = refl
  keys_copied h (e ∷ es) = ap (λ ks. e.0 ∷ ks) (keys_copied (copied n h e.1).1 es)

-- the cell that was made last, in all that grew of it
last_cell : (cells new : List (Option Cell)) (c : Cell) → IsGrown (cells ++ Some c ∷ []) new → cell_at new (length cells) ≡ Some c
last_cell cells new c g = grown_cell (cells ++ Some c ∷ []) new (length cells) g (omega (arith, length_push cells (Some c))) ∙ get_or_push cells (Some c) None (length cells) refl

module _ (base : List (Option Cell)) (sound : (x : ℕ) → KnowsSlot base (cell_at base x)) (n : ℕ) (copies : AllCopies base n) (h : Heap) (g : IsGrown base h.cells) where
  array_at : (s : Serial) → IsCounted (items_in (suc n) base (Array s)) → Copies base h (Array s) (new_array_of (element_of (cell_at base s.0)) (copied_items (copied n) h (items_of (cell_at base s.0))))
  array_at s c new more vs ws rest =
      let from = items_of (cell_at base s.0) in
      let of = element_of (cell_at base s.0) in
      let inside = copied_items (copied n) h from in
      let last = grown_new inside.1.cells (ArrayCell inside.0 of) in
      AreCopies.array s (next_serial inside.1) inside.0 vs ws
      (grown_length base inside.1.cells (grown_then base h.cells inside.1.cells g (items_grown (copied n) (copied_grown n) h from)))
      (last_cell inside.1.cells new (ArrayCell inside.0 of) more)
      (items_copied base n copies h from g (items_known base (cell_at base s.0) (sound s.0)) (array_counted n base s c) new (grown_then inside.1.cells _ new last more))
      rest

  dict_at : (s : Serial) → IsCounted (items_in (suc n) base (Dict s)) → Copies base h (Dict s) (new_dict_of (copied_entries (copied n) h (entries_of (cell_at base s.0))))
  dict_at s c new more vs ws rest =
      let from = entries_of (cell_at base s.0) in
      let inside = copied_entries (copied n) h from in
      let last = grown_new inside.1.cells (DictCell inside.0) in
      AreCopies.dict s (next_serial inside.1) inside.0 vs ws
      (grown_length base inside.1.cells (grown_then base h.cells inside.1.cells g (entries_grown (copied n) (copied_grown n) h from)))
      (last_cell inside.1.cells new (DictCell inside.0) more)
      (keys_copied base n copies h from)
      (entries_copied base n copies h from g (entries_known base (cell_at base s.0) (sound s.0)) (dict_counted n base s c) new (grown_then inside.1.cells _ new last more))
      rest

  value_at : (v : Value) → knows base v ≡ true → IsCounted (items_in (suc n) base v) → Copies base h v (copied (suc n) h v)
  value_at = by_kind (λ v. knows base v ≡ true → IsCounted (items_in (suc n) base v) → Copies base h v (copied (suc n) h v))
      (λ s k c. subst (Copies base h (Array s)) (sym (copied-suc n h (Array s)))
      (subst (λ (cell : Option Cell). Copies base h (Array s) (new_array_of (element_of cell) (copied_items (copied n) h (items_of cell)))) (sym (grown_cell base h.cells s.0 g (array_within base s.0 k))) (array_at s c)))
      (λ s k c. subst (Copies base h (Dict s)) (sym (copied-suc n h (Dict s)))
      (subst (λ (cell : Option Cell). Copies base h (Dict s) (new_dict_of (copied_entries (copied n) h (entries_of cell)))) (sym (grown_cell base h.cells s.0 g (dict_within base s.0 k))) (dict_at s c)))
      (λ v one k c. subst (Copies base h v) (sym (copied-suc n h v ∙ one.copy (array_copy n h) (dict_copy n h) h)) (λ new more vs ws rest. AreCopies.shared v vs ws one.plain rest))

all_copies : (base : List (Option Cell)) → ((x : ℕ) → KnowsSlot base (cell_at base x)) → (n : ℕ) → AllCopies base n
all_copies base sound zero h g v = by_kind (λ w. knows base w ≡ true → IsCounted (items_in zero base w) → Copies base h w (copied zero h w))
    (λ s k c. absurd (array_uncounted base s c))
    (λ s k c. absurd (dict_uncounted base s c))
    (λ w one k c. subst (Copies base h w) (sym (copied-zero h w)) (λ new more vs ws rest. AreCopies.shared w vs ws one.plain rest))
    v
all_copies base sound (suc n) h g v = value_at base sound n (all_copies base sound n) h g v

-- the copy that the code makes
pub deep_copied : (old new : Heap) (v w : Value) (within : Bool) → IsSound old → knows old.cells v ≡ true → within ≡ is_within (items_in most_levels old.cells v) → within ≡ true → (w, new) ≡ copied most_levels old v → IsDeepCopy old.cells new.cells v w
deep_copied old new v w false sound known is held copy = cc
deep_copied old new v w true sound known is held copy = subst (λ (c : Value × Heap). IsDeepCopy old.cells c.1.cells v c.0) (sym copy) (all_copies old.cells sound.known most_levels old (grown_none old.cells) v known (within_counted _ (sym is)) (copied most_levels old v).1.cells (grown_none _) [] [] AreCopies.none)
