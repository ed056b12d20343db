-- What a copy adds to the weight, and to the number of cells.
use Rattle.std.proofs.Common.{◌≡◌, ℕ, zero, suc, ◌+◌, ◌-◌, ◌<◌, ◌≤◌, ◌∙◌, ap, sym, subst, refl, true, cond, nat_le, List, [], ◌∷◌, ◌++◌, length, drop, Option, Some, None, is_some, slice_get, arith, inl, inr}
use Rattle.std.specs.List.{sum_by}
use Rattle.std.proofs.lemmas.Bool.{cases_lt, le-leb, lt-leb}
use Rattle.std.proofs.lemmas.List.{length_push}
use Rattle.std.proofs.lemmas.List.Elements.{All-head, All-tail}
use Rattle.std.proofs.lemmas.List.Sums.{sum_by-cons, sum_by_push}
use Rattle.variant_values.specs.declared.cells.Cell.{Cell}
use Rattle.variant_values.specs.declared.cells.Cell.TheVariants.{Array as ArrayCell, Dict as DictCell, Object as ObjectCell}
use Rattle.variant_values.specs.declared.values.Key.{Key}
use Rattle.variant_values.specs.declared.values.Serial.{Serial}
use Rattle.variant_values.specs.declared.values.Value.{Value}
use Rattle.variant_values.specs.declared.values.Value.TheVariants.{Array, Dict}
use Rattle.variant_values.specs.Copies.{copied, copied_items, copied_entries}
use Rattle.variant_values.specs.declared.classes.ElementTag.{ElementTag}
use Rattle.variant_values.specs.ElementTypes.{element_of}
use Rattle.variant_values.specs.Heaps.{Heap, cell_at, items_of, entries_of, knows, knows_key, KnowsAll, KnowsEntries, KnowsSlot}
use Rattle.variant_values.specs.Places.{room_left, slot_weight, text_weight}
use Rattle.variant_values.specs.Sound.{IsSound}
use Rattle.variant_values.proofs.Knowing.{array_within, dict_within}
use Rattle.variant_values.proofs.Rooms.{no_room, room_has, room_lacks}
use Rattle.call_support.proofs.Counts.{drop-next}
use Rattle.deep_copies.specs.CopyWeights.{array_copy, dict_copy, cell_cost, copy_cost, entry_cost, item_cost, size, total}
use Rattle.deep_copies.specs.declared.rooms.Measure.{Measure}
use Rattle.deep_copies.specs.declared.rooms.Measure.TheVariants.{Weight, Cells}
use Rattle.deep_copies.proofs.Growth.{IsGrown, Grows, grown_none, grown_then, grown_cell, copied_grown}
use Rattle.deep_copies.proofs.Levels.{by_kind, array_cost, dict_cost, copied-zero, copied-suc, cost-zero, cost-suc}

-- a new array or dictionary
new_array_size : (m : Measure) (cells : List (Option Cell)) (vs : List Value) (of : Option ElementTag) → size m (cells ++ Some (ArrayCell vs of) ∷ []) ≡ size m cells + (cell_cost m + sum_by (item_cost m) vs)
new_array_size Weight cells vs of = sum_by_push slot_weight cells (Some (ArrayCell vs of))
new_array_size Cells cells vs of = omega (arith, length_push cells (Some (ArrayCell vs of)), no_cost vs)
  where
    no_cost : (vs : List Value) → sum_by (item_cost Cells) vs ≡ 0
    no_cost [] = refl
    no_cost (v ∷ vs) = omega (arith, sum_by-cons (item_cost Cells) v vs, no_cost vs)

new_dict_size : (m : Measure) (cells : List (Option Cell)) (es : List (Key × Value)) → size m (cells ++ Some (DictCell es) ∷ []) ≡ size m cells + (cell_cost m + sum_by (entry_cost m) es)
new_dict_size Weight cells es = sum_by_push slot_weight cells (Some (DictCell es))
new_dict_size Cells cells es = omega (arith, length_push cells (Some (DictCell es)), no_cost es)
  where
    no_cost : (es : List (Key × Value)) → sum_by (entry_cost Cells) es ≡ 0
    no_cost [] = refl
    no_cost (e ∷ es) = omega (arith, sum_by-cons (entry_cost Cells) e es, no_cost es)

-- values of equal texts cost the same
same_cost : (m : Measure) (v w : Value) → text_weight w ≡ text_weight v → item_cost m w ≡ item_cost m v
same_cost Weight v w e = omega (arith, e)
same_cost Cells v w e = refl

same_entry_cost : (m : Measure) (k : Key) (v w : Value) → text_weight w ≡ text_weight v → entry_cost m (k, w) ≡ entry_cost m (k, v)
same_entry_cost Weight k v w e = omega (arith, e)
same_entry_cost Cells k v w e = refl

abbrev KnownEntry : List (Option Cell) → Key × Value → Type 0
KnownEntry cells e = (knows_key cells e.0 ≡ true) × (knows cells e.1 ≡ true)

pub items_known : (cells : List (Option Cell)) (c : Option Cell) → KnowsSlot cells c → KnowsAll cells (items_of c)
items_known cells None k = λ i d l. absurd (omega (arith, l))
items_known cells (Some (ArrayCell vs of)) k = k
items_known cells (Some (DictCell es)) k = λ i d l. absurd (omega (arith, l))
items_known cells (Some (ObjectCell o)) k = λ i d l. absurd (omega (arith, l))

pub entries_known : (cells : List (Option Cell)) (c : Option Cell) → KnowsSlot cells c → KnowsEntries cells (entries_of c)
entries_known cells None k = λ i d l. absurd (omega (arith, l))
entries_known cells (Some (ArrayCell vs of)) k = λ i d l. absurd (omega (arith, l))
entries_known cells (Some (DictCell es)) k = k
entries_known cells (Some (ObjectCell o)) k = λ i d l. absurd (omega (arith, l))

module _ (m : Measure) where
  pub record IsWeighed (h : Heap) (v : Value) (copy : Value × Heap) (w : ℕ) : Type 0 where
    pub text : text_weight copy.0 ≡ text_weight v
    pub cost : size m copy.1.cells ≡ size m h.cells + w

  -- a copy of what the cells know adds so much
  abbrev Weighs : List (Option Cell) → (Heap → Value → Value × Heap) → (Value → ℕ) → Type 0
  Weighs base copy f = (h : Heap) → IsGrown base h.cells → (v : Value) → knows base v ≡ true → IsWeighed h v (copy h v) (f v)

  module _ (base : List (Option Cell)) (copy : Heap → Value → Value × Heap) (f : Value → ℕ) (grows : Grows copy) (weighs : Weighs base copy f) where
    pub items_weigh : (h : Heap) (vs : List Value) → IsGrown base h.cells → KnowsAll base vs → size m (copied_items copy h vs).1.cells + sum_by (item_cost m) (copied_items copy h vs).0 ≡ size m h.cells + total (λ v. item_cost m v + f v) vs
    items_weigh h [] g k = omega arith
    items_weigh h (v ∷ vs) g k =
        let first = weighs h g v (All-head (λ w. knows base w ≡ true) v vs k) in
        let others = items_weigh (copy h v).1 vs (grown_then base h.cells (copy h v).1.cells g (grows h v)) (All-tail (λ w. knows base w ≡ true) v vs k) in
        omega (arith, same_cost m v (copy h v).0 first.text, first.cost, others, sum_by-cons (item_cost m) (copy h v).0 (copied_items copy (copy h v).1 vs).0)

    pub entries_weigh : (h : Heap) (es : List (Key × Value)) → IsGrown base h.cells → KnowsEntries base es → size m (copied_entries copy h es).1.cells + sum_by (entry_cost m) (copied_entries copy h es).0 ≡ size m h.cells + total (λ e. entry_cost m e + f e.1) es
    entries_weigh h [] g k = omega arith
    entries_weigh h (e ∷ es) g k =
        let first = weighs h g e.1 (All-head (KnownEntry base) e es k).1 in
        let others = entries_weigh (copy h e.1).1 es (grown_then base h.cells (copy h e.1).1.cells g (grows h e.1)) (All-tail (KnownEntry base) e es k) in
        omega (arith, same_entry_cost m e.0 e.1 (copy h e.1).0 first.text, first.cost, others, sum_by-cons (entry_cost m) (e.0, (copy h e.1).0) (copied_entries copy (copy h e.1).1 es).0)

  module _ (base : List (Option Cell)) (sound : (x : ℕ) → KnowsSlot base (cell_at base x)) (n : ℕ) (weighs : Weighs base (copied n) (copy_cost m n base)) (h : Heap) (g : IsGrown base h.cells) where
    array_weighed : (s : Serial) → knows base (Array s) ≡ true → IsWeighed h (Array s) (array_copy n h s) (array_cost m n base s)
    array_weighed s k =
        let same : cell_at h.cells s.0 ≡ cell_at base s.0 = grown_cell base h.cells s.0 g (array_within base s.0 k) in
        let inside = copied_items (copied n) h (items_of (cell_at h.cells s.0)) in
        let known : KnowsAll base (items_of (cell_at h.cells s.0)) = subst (λ (c : Option Cell). KnowsAll base (items_of c)) (sym same) (items_known base (cell_at base s.0) (sound s.0)) in
        record {
          text = refl;
          cost = omega (arith, new_array_size m inside.1.cells inside.0 (element_of (cell_at h.cells s.0)), items_weigh base (copied n) (copy_cost m n base) (copied_grown n) weighs h (items_of (cell_at h.cells s.0)) g known, ap (λ (c : Option Cell). total (λ w. item_cost m w + copy_cost m n base w) (items_of c)) same);
        }

    dict_weighed : (s : Serial) → knows base (Dict s) ≡ true → IsWeighed h (Dict s) (dict_copy n h s) (dict_cost m n base s)
    dict_weighed s k =
        let same : cell_at h.cells s.0 ≡ cell_at base s.0 = grown_cell base h.cells s.0 g (dict_within base s.0 k) in
        let inside = copied_entries (copied n) h (entries_of (cell_at h.cells s.0)) in
        let known : KnowsEntries base (entries_of (cell_at h.cells s.0)) = subst (λ (c : Option Cell). KnowsEntries base (entries_of c)) (sym same) (entries_known base (cell_at base s.0) (sound s.0)) in
        record {
          text = refl;
          cost = omega (arith, new_dict_size m inside.1.cells inside.0, entries_weigh base (copied n) (copy_cost m n base) (copied_grown n) weighs h (entries_of (cell_at h.cells s.0)) g known, ap (λ (c : Option Cell). total {A = Key × Value} (λ e. entry_cost m e + copy_cost m n base e.1) (entries_of c)) same);
        }

    value_weighed : (v : Value) → knows base v ≡ true → IsWeighed h v (copied (suc n) h v) (copy_cost m (suc n) base v)
    value_weighed v known = by_kind (λ w. knows base w ≡ true → IsWeighed h w (copied (suc n) h w) (copy_cost m (suc n) base w))
        (λ s k. by (Array s) (array_copy n h s) (array_cost m n base s) (copied-suc n h (Array s)) (cost-suc m n base (Array s)) (array_weighed s k))
        (λ s k. by (Dict s) (dict_copy n h s) (dict_cost m n base s) (copied-suc n h (Dict s)) (cost-suc m n base (Dict s)) (dict_weighed s k))
        (λ w one k. by w (w, h) 0 (copied-suc n h w ∙ one.copy (array_copy n h) (dict_copy n h) h) (cost-suc m n base w ∙ one.weight (array_cost m n base) (dict_cost m n base)) (record { text = refl; cost = omega arith }))
        v known
      where
        by : (w : Value) (c : Value × Heap) (cost : ℕ) → copied (suc n) h w ≡ c → copy_cost m (suc n) base w ≡ cost → IsWeighed h w c cost → IsWeighed h w (copied (suc n) h w) (copy_cost m (suc n) base w)
        by w c cost e f i = subst (λ (d : Value × Heap). IsWeighed h w d (copy_cost m (suc n) base w)) (sym e) (subst (λ (k : ℕ). IsWeighed h w c k) (sym f) i)

  pub copied_weighs : (base : List (Option Cell)) → ((x : ℕ) → KnowsSlot base (cell_at base x)) → (n : ℕ) → Weighs base (copied n) (copy_cost m n base)
  copied_weighs base sound zero h g v k = record { text = ap (λ (c : Value × Heap). text_weight c.0) (copied-zero h v); cost = omega (arith, ap (λ (c : Value × Heap). size m c.1.cells) (copied-zero h v), cost-zero m base v) }
  copied_weighs base sound (suc n) h g v k = value_weighed base sound n (copied_weighs base sound n) h g v k

  -- ---- the heap takes a copy where its room has what it costs

  pub takes_is : (n : ℕ) (h : Heap) (v : Value) (room limit : ℕ) → IsSound h → room + size m h.cells ≡ limit → knows h.cells v ≡ true → is_some (room_left room (copy_cost m n h.cells v)) ≡ nat_le (size m (copied n h v).1.cells) limit
  takes_is n h v room limit sound all known =
      let added = (copied_weighs h.cells sound.known n h (grown_none h.cells) v known).cost in
      elim (cases_lt room (copy_cost m n h.cells v)) [
        | inl full ↦ sym (ap is_some (no_room room (copy_cost m n h.cells v) full)) ∙ sym (lt-leb (size m (copied n h v).1.cells) limit (omega (arith, added)))
        | inr fits ↦
            ap (λ b. is_some (cond b (Some (room - copy_cost m n h.cells v)) None)) (le-leb (copy_cost m n h.cells v) room fits)
            ∙ sym (le-leb (size m (copied n h v).1.cells) limit (omega (arith, added)))
      ]

-- ---- item by item

pub room_all : (room added : ℕ) → added ≡ 0 → Some room ≡ room_left room added
room_all room added e = let f : room ≡ room - added = omega arith in ap Some f ∙ sym (ap (λ b. cond b (Some (room - added)) None) (le-leb added room (omega arith)))

pub room_then : (room left a b : ℕ) → Some left ≡ room_left room a → room_left left b ≡ room_left room (a + b)
room_then room left a b h =
    let has = room_has room a left h in
    elim (cases_lt room (a + b)) [
      | inl more ↦ sym (no_room left b (omega (arith, has))) ∙ no_room room (a + b) more
      | inr fits ↦
          let same : left - b ≡ room - (a + b) = omega (arith, has) in
          ap (λ t. cond t (Some (left - b)) None) (le-leb b left (omega (arith, has))) ∙ ap Some same ∙ sym (ap (λ t. cond t (Some (room - (a + b))) None) (le-leb (a + b) room fits))
    ]

pub room_stop : (room a b : ℕ) → None ≡ room_left room a → None ≡ room_left room (a + b)
room_stop room a b h = let lacks = room_lacks room a h in no_room room (a + b) (omega (arith, lacks))

-- a step of a loop that weighs
pub weighs_next : {A : Type 0} (f : A → ℕ) (left new : ℕ) (all : Option ℕ) (xs : List A) (i : ℕ) (x : A) → slice_get xs i ≡ Some x → Some new ≡ room_left left (f x) → room_left left (total f (drop i xs)) ≡ all → room_left new (total f (drop (i + 1) xs)) ≡ all
weighs_next f left new all xs i x is took so_far = room_then left new (f x) _ took ∙ sym (ap (λ ys. room_left left (total f ys)) (drop-next xs i x is)) ∙ so_far

pub weighs_stop : {A : Type 0} (f : A → ℕ) (left : ℕ) (all : Option ℕ) (xs : List A) (i : ℕ) (x : A) → slice_get xs i ≡ Some x → None ≡ room_left left (f x) → room_left left (total f (drop i xs)) ≡ all → None ≡ all
weighs_stop f left all xs i x is stop so_far = room_stop left (f x) _ stop ∙ sym (ap (λ ys. room_left left (total f ys)) (drop-next xs i x is)) ∙ so_far
