-- Values are put into an array in the place of others.
use Rattle.std.proofs.Common.{get_or, ◌≡◌, ℕ, ◌+◌, ◌-◌, ◌<◌, ◌≤◌, ◌^◌, true, cond, List, [], ◌∷◌, ◌++◌, take, drop, length, set, refl, sym, ◌∙◌, ap, subst, Option, Some, None, is_some, arith, inl, inr, All}
use Rattle.std.specs.List.{sum_by, slice_range}
use Rattle.std.proofs.Math.Seq.{drop-append_seam, take-append_seam}
use Rattle.std.proofs.lemmas.List.{append_assoc, length-map, length-set, length-append, length-take-le, drop-drop, take-append-drop, get_or-set_same, set-set, set-get_or}
use Rattle.std.proofs.lemmas.List.Elements.{All-append, All-take, All-drop}
use Rattle.std.proofs.lemmas.List.Sums.{sum_by-cons, sum_by-set, sum_by-append, sum_by-take-drop}
use Rattle.std.proofs.lemmas.Bool.{cases_lt, le-leb, false≢true}
use Rattle.variant_values.proofs.Rooms.{no_room}
use Rattle.variant_values.specs.declared.values.Value.{Value}
use Rattle.variant_values.specs.declared.cells.Cell.{Cell}
use Rattle.variant_values.specs.declared.cells.Cell.TheVariants.{Array as ArrayCell, Dict as DictCell, Object as ObjectCell}
use Rattle.variant_values.specs.Places.{place_of, in_values, in_value, in_slot, item_weight, slot_weight, weight, room_left}
use Rattle.variant_values.specs.Heaps.{cell_at, is_array, items_of, items_put, spliced, knows, KnowsAll, KnowsSlot}
use Rattle.variant_values.proofs.Sweeping.{slot_le}
use Rattle.variant_values.proofs.Knowing.{value_within}
use Rattle.ref_objects.specs.declared.slots.Slot.{Slot}
use Rattle.ref_objects.specs.Slots.{count_at, cells_of, lives, IsKept, IsPut, IsNow, IsRaised, IsLowered, IsRecounted, none_more}
use Rattle.ref_objects.proofs.Raising.{lives-cells, lives_same}
use Rattle.ref_objects.proofs.Weights.{in_cells_le, one_at_le}
use Rattle.ref_objects.proofs.Putting.{slot_weight_le}
use Rattle.ref_objects.proofs.Swapping.{IsSameKind, IsSwapped, kind_kept, swapped_kept, swapped_held}

-- a place of a cell weighs at least one
values_le : (y : ℕ) (vs : List Value) → in_values y vs ≤ sum_by item_weight vs
values_le y [] = omega arith
values_le y (v ∷ vs) = omega (arith, sum_by-cons (in_value y) v vs, sum_by-cons item_weight v vs, one_at_le y (place_of v), values_le y vs)

-- a part of a list
range_is : {X : Type 0} (xs : List X) (at n : ℕ) → slice_range xs at (at + n) ≡ take n (drop at xs)
range_is xs at n = ap (λ m. take m (drop at xs)) (omega arith)

-- values put in, and those that come after them
module _ (vs put : List Value) (at out : ℕ) (fits : at + out ≤ length vs) where
  abbrev ws : List Value
  ws = take at vs ++ put ++ drop at vs

  abbrev A : List Value
  A = take at vs ++ put

  front : length (take at vs) ≡ at
  front = length-take-le at vs (omega (arith, fits))

  length_A : length A ≡ at + length put
  length_A = length-append (take at vs) put ∙ ap (λ n. n + length put) front

  after : drop at ws ≡ put ++ drop at vs
  after = ap (drop at) (append_assoc (take at vs) put (drop at vs)) ∙ ap (λ n. drop n (take at vs ++ (put ++ drop at vs))) (sym front) ∙ drop-append_seam (take at vs) (put ++ drop at vs)

  pub put_is : slice_range ws at (at + length put) ≡ put
  put_is = range_is ws at (length put) ∙ ap (take (length put)) after ∙ take-append_seam put (drop at vs)

  past : drop (at + length put) ws ≡ drop at vs
  past = ap (λ n. drop n ws) (sym length_A) ∙ drop-append_seam A (drop at vs)

  pub out_is : slice_range ws (at + length put) (at + length put + out) ≡ take out (drop at vs)
  out_is = range_is ws (at + length put) out ∙ ap (take out) past

  head : take (at + length put) ws ≡ A
  head = ap (λ n. take n ws) (sym length_A) ∙ take-append_seam A (drop at vs)

  tail : drop (at + length put + out) ws ≡ drop (at + out) vs
  tail = sym (drop-drop out (at + length put) ws) ∙ ap (drop out) past ∙ drop-drop out at vs

  pub rest_is : take (at + length put) ws ++ drop (at + length put + out) ws ≡ spliced vs at out put
  rest_is = ap (λ h. h ++ drop (at + length put + out) ws) head ∙ ap (λ t. A ++ t) tail

  pub long : at + length put + out ≤ length ws
  long = omega (arith, fits, front, length_A, length-append A (drop at vs), length-append (take at vs) (drop at vs), ap length (take-append-drop at vs))

  -- what the list sums to then
  pub sum_spliced : (f : Value → ℕ) → sum_by f (spliced vs at out put) + sum_by f (take out (drop at vs)) ≡ sum_by f vs + sum_by f put
  sum_spliced f = omega (arith, sum_by-append f A (drop (at + out) vs), sum_by-append f (take at vs) put, sum_by-take-drop f vs at, sum_by-take-drop f (drop at vs) out, ap (sum_by f) (drop-drop out at vs))

  pub all_spliced : (P : Value → Type 0) → All P vs → All P put → All P (spliced vs at out put)
  all_spliced P a b = All-append P A (drop (at + out) vs) (All-append P (take at vs) put (All-take P at vs a) b) (All-drop P (at + out) vs a)

  pub all_ws : (P : Value → Type 0) → All P vs → All P put → All P ws
  all_ws P a b = All-append P A (drop at vs) (All-append P (take at vs) put (All-take P at vs a) b) (All-drop P at vs a)

  pub part_le : (f : Value → ℕ) → sum_by f (take out (drop at vs)) ≤ sum_by f vs
  part_le f = omega (arith, sum_by-take-drop f vs at, sum_by-take-drop f (drop at vs) out)

-- an array with other items
items_kind : (vs : List Value) (s : Option Cell) → IsSameKind s (items_put vs s)
items_kind vs None = record { array = refl; dict = refl; object = refl; alive = refl }
items_kind vs (Some (ArrayCell us of)) = record { array = refl; dict = refl; object = refl; alive = refl }
items_kind vs (Some (DictCell fs)) = record { array = refl; dict = refl; object = refl; alive = refl }
items_kind vs (Some (ObjectCell o)) = record { array = refl; dict = refl; object = refl; alive = refl }

items_places : (vs : List Value) (y : ℕ) (s : Option Cell) → is_array s ≡ true → in_slot y (items_put vs s) ≡ in_values y vs
items_places vs y None d = absurd (false≢true d)
items_places vs y (Some (ArrayCell us of)) d = refl
items_places vs y (Some (DictCell fs)) d = absurd (false≢true d)
items_places vs y (Some (ObjectCell o)) d = absurd (false≢true d)

items_weight : (vs : List Value) (s : Option Cell) → is_array s ≡ true → slot_weight (items_put vs s) ≡ 16 + sum_by item_weight vs
items_weight vs None d = absurd (false≢true d)
items_weight vs (Some (ArrayCell us of)) d = refl
items_weight vs (Some (DictCell fs)) d = absurd (false≢true d)
items_weight vs (Some (ObjectCell o)) d = absurd (false≢true d)

items_known : (cells : List (Option Cell)) (vs : List Value) (s : Option Cell) → is_array s ≡ true → KnowsAll cells vs → KnowsSlot cells (items_put vs s)
items_known cells vs None d a = absurd (false≢true d)
items_known cells vs (Some (ArrayCell us of)) d a = a
items_known cells vs (Some (DictCell fs)) d a = absurd (false≢true d)
items_known cells vs (Some (ObjectCell o)) d a = absurd (false≢true d)

items_same : (s : Option Cell) → is_array s ≡ true → items_put (items_of s) s ≡ s
items_same None d = refl
items_same (Some (ArrayCell vs of)) d = refl
items_same (Some (DictCell fs)) d = absurd (false≢true d)
items_same (Some (ObjectCell o)) d = absurd (false≢true d)

items_twice : (vs us : List Value) (s : Option Cell) → items_put vs (items_put us s) ≡ items_put vs s
items_twice vs us None = refl
items_twice vs us (Some (ArrayCell ts of)) = refl
items_twice vs us (Some (DictCell fs)) = refl
items_twice vs us (Some (ObjectCell o)) = refl

items_all : (cells : List (Option Cell)) (s : Option Cell) → is_array s ≡ true → KnowsSlot cells s → KnowsAll cells (items_of s)
items_all cells None d k = absurd (false≢true d)
items_all cells (Some (ArrayCell vs of)) d k = k
items_all cells (Some (DictCell fs)) d k = absurd (false≢true d)
items_all cells (Some (ObjectCell o)) d k = absurd (false≢true d)

-- the room that a weight leaves, once some of it was taken
pub room_shift : (m a w : ℕ) → a ≤ m → room_left (m - a) w ≡ room_left m (a + w)
room_shift m a w h = elim (cases_lt (m - a) w) [
  | inl l ↦ sym (no_room (m - a) w l) ∙ no_room m (a + w) (omega (arith, h, l))
  | inr l ↦ ap (λ b. cond b (Some (m - a - w)) None) (le-leb w (m - a) l) ∙ ap Some (omega (arith, h, l)) ∙ sym (ap (λ b. cond b (Some (m - (a + w))) None) (le-leb (a + w) m (omega (arith, h, l))))
]

-- as many slots where the cells are the same
pub same_length : (a b : List Slot) → cells_of b ≡ cells_of a → length b ≡ length a
same_length a b e = sym (length-map b (λ s. s.cell)) ∙ ap length e ∙ length-map a (λ s. s.cell)

-- the counts of values that were put in and of those that come after them
pub traded : (a b c : List Slot) (more less : ℕ → ℕ) → IsRaised a b more → IsLowered b c less → IsRecounted a c more none_more less
traded a b c more less up down = record {
  cells = down.cells ∙ up.cells;
  counts = λ y l. omega (arith, rw (lives_same a b up.cells y ∙ l) at (down.counts y), rw l at (up.counts y));
  gone = λ y l. omega (arith, rw (lives_same a b up.cells y ∙ l) at (down.counts y), rw l at (up.counts y));
}

pub traded_held : (a b : List Slot) (more less : ℕ → ℕ) → IsRaised a b more → ((y : ℕ) → lives a y ≡ true → less y ≤ count_at a y) → (y : ℕ) → lives b y ≡ true → less y ≤ count_at b y
traded_held a b more less up h y l =
    let la : lives a y ≡ true = sym (lives_same a b up.cells y) ∙ l in
    omega (arith, h y la, rw la at (up.counts y))

module _ (a : List Slot) (x total at out : ℕ) (put : List Value) (k : IsKept a total) (within : x < length a) (array : is_array (cell_at (cells_of a) x) ≡ true) (fits : at + out ≤ length (items_of (cell_at (cells_of a) x))) where
  abbrev s : Option Cell
  s = cell_at (cells_of a) x

  abbrev vs : List Value
  vs = items_of (cell_at (cells_of a) x)

  within_cells : x < length (cells_of a)
  within_cells = rw (length-map a (λ s. s.cell)) within

  places_before : (y : ℕ) → in_slot y s ≡ in_values y vs
  places_before y = ap (in_slot y) (sym (items_same s array)) ∙ items_places vs y s array

  weight_before : slot_weight s ≡ 16 + sum_by item_weight vs
  weight_before = ap slot_weight (sym (items_same s array)) ∙ items_weight vs s array

  pub light_range : (items : List Value) → items ≡ vs → sum_by item_weight (slice_range items at (at + out)) ≡ sum_by item_weight (take out (drop at vs))
  light_range items e = ap (sum_by item_weight) (range_is items at out) ∙ ap (λ (q : List Value). sum_by item_weight (take out (drop at q))) e

  pub light_le : sum_by item_weight (take out (drop at vs)) ≤ total
  light_le = omega (arith, part_le vs put at out fits item_weight, weight_before, slot_weight_le x (cells_of a), k.weighed)

  pub weight_spliced : weight (set (cells_of a) x (items_put (spliced vs at out put) s)) ≡ total - sum_by item_weight (take out (drop at vs)) + sum_by item_weight put
  weight_spliced = omega (arith, sum_by-set slot_weight (cells_of a) x (items_put (spliced vs at out put) s) None within_cells, weight_before, items_weight (spliced vs at out put) s array, sum_spliced vs put at out fits item_weight, light_le, k.weighed)

  pub put_light : weight (set (cells_of a) x (items_put (spliced vs at out put) s)) ≤ 67108864 → sum_by item_weight put ≤ 67108864
  put_light h = omega (arith, h, weight_spliced, light_le)

  -- the items are out of the array
  module _ (b : List Slot) (emptied : IsPut a b x (items_put [] s)) where
    cell_b : cell_at (cells_of b) x ≡ items_put [] s
    cell_b = ap (λ cells. cell_at cells x) emptied.cells ∙ get_or-set_same (cells_of a) x (items_put [] s) None within_cells

    pub array_b : is_array (cell_at (cells_of b) x) ≡ true
    array_b = ap is_array cell_b ∙ (items_kind [] s).array ∙ array

    pub within_b : x < length b
    within_b = rw (sym (length-map b (λ s. s.cell)) ∙ ap length emptied.cells ∙ length-set (cells_of a) x (items_put [] s)) within_cells

    lives_b : (y : ℕ) → lives b y ≡ lives a y
    lives_b y = sym (lives-cells b y) ∙ ap (λ cells. is_some (cell_at cells y)) emptied.cells ∙ kind_kept is_some (cells_of a) x y (items_put [] s) within_cells (items_kind [] s).alive ∙ lives-cells a y

    put_cells : (c d : List Slot) (ws : List Value) → cells_of c ≡ cells_of b → IsPut c d x (items_put ws (cell_at (cells_of c) x)) → cells_of d ≡ set (cells_of a) x (items_put ws s)
    put_cells c d ws e p =
        p.cells ∙ ap (λ cells. set cells x (items_put ws (cell_at cells x))) e
        ∙ ap (λ t. set (cells_of b) x (items_put ws t)) cell_b
        ∙ ap (λ t. set (cells_of b) x t) (items_twice ws [] s)
        ∙ ap (λ cells. set cells x (items_put ws s)) emptied.cells
        ∙ set-set (cells_of a) x (items_put [] s) (items_put ws s)

    -- they are put back
    pub back_now : (d : List Slot) (ws : List Value) → ws ≡ vs → IsPut b d x (items_put ws (cell_at (cells_of b) x)) → IsNow a d total (cells_of a)
    back_now d ws same p =
        let cells : cells_of d ≡ set (cells_of a) x (items_put ws s) = put_cells b d ws refl p in
        let t_is : items_put ws s ≡ s = ap (λ w. items_put w s) same ∙ items_same s array in
        let w : IsSwapped a d x (items_put ws s) = record {
          within = within;
          cells = cells;
          kind = items_kind ws s;
          counts = λ y l. omega (arith, p.counts y, emptied.counts y, ap (in_slot y) t_is);
          gone = λ y l. p.counts y ∙ emptied.counts y;
        } in
        record {
          kept = swapped_kept a d x (items_put ws s) w total total k (subst (λ t. KnowsSlot (cells_of a) t) (sym t_is) (k.known x)) (omega (arith, ap slot_weight t_is)) k.light;
          cells_are = cells ∙ ap (set (cells_of a) x) t_is ∙ set-get_or (cells_of a) x None;
          held = swapped_held a d x (items_put ws s) w total k;
        }

    -- what the trade needs
    module _ (known : KnowsAll (cells_of a) put) (ws : List Value) (ws_is : ws ≡ take at vs ++ put ++ drop at vs) where
      pub trade_long : at + length put + out ≤ length ws
      trade_long = rw ws_is (long vs put at out fits)

      pub trade_within : All (λ v. place_of v < length b) ws
      trade_within = rw (ws_is, sym (length-map b (λ s. s.cell)) ∙ ap length emptied.cells ∙ length-set (cells_of a) x (items_put [] s)) (all_ws vs put at out fits (λ v. place_of v < length (cells_of a)) (each vs (items_all (cells_of a) s array (k.known x))) (each put known))
        where
          each : (us : List Value) → KnowsAll (cells_of a) us → All (λ v. place_of v < length (cells_of a)) us
          each us n = λ i d l. value_within (cells_of a) (get_or us i d) (rw (length-map a (λ s. s.cell)) k.some) (n i d l)

      pub trade_room : sum_by item_weight put ≤ 67108864 → (y : ℕ) → count_at b y + in_values y (slice_range ws at (at + length put)) < 2 ^ 128
      trade_room light y = rw ws_is (rw (put_is vs put at out fits) (omega (arith, emptied.counts y, k.few y, k.weighed, k.light, in_cells_le y (cells_of a), values_le y put, light)))

      pub trade_held : (y : ℕ) → lives b y ≡ true → in_values y (slice_range ws (at + length put) (at + length put + out)) ≤ count_at b y
      trade_held y l = rw ws_is (rw (out_is vs put at out fits) (omega (arith, emptied.counts y, k.counted y (sym (lives_b y) ∙ l), slot_le y x (cells_of a), places_before y, part_le vs put at out fits (in_value y))))

      pub traded_now : (c d : List Slot) (us : List Value) (total' : ℕ) → IsRecounted b c (λ y. in_values y (slice_range ws at (at + length put))) none_more (λ y. in_values y (slice_range ws (at + length put) (at + length put + out))) → us ≡ take (at + length put) ws ++ drop (at + length put + out) ws → IsPut c d x (items_put us (cell_at (cells_of c) x)) → total' ≡ weight (set (cells_of a) x (items_put (spliced vs at out put) s)) → total' ≤ 67108864 → IsNow a d total' (set (cells_of a) x (items_put (spliced vs at out put) s))
      traded_now c d us total' re us_is p w light =
          let us_are : us ≡ spliced vs at out put = us_is ∙ ap (λ q. take (at + length put) q ++ drop (at + length put + out) q) ws_is ∙ rest_is vs put at out fits in
          let cells : cells_of d ≡ set (cells_of a) x (items_put (spliced vs at out put) s) = put_cells c d us re.cells p ∙ ap (λ q. set (cells_of a) x (items_put q s)) us_are in
          let ins : (y : ℕ) → in_values y (slice_range ws at (at + length put)) ≡ in_values y put = λ y. ap (λ q. in_values y (slice_range q at (at + length put))) ws_is ∙ ap (in_values y) (put_is vs put at out fits) in
          let outs : (y : ℕ) → in_values y (slice_range ws (at + length put) (at + length put + out)) ≡ in_values y (take out (drop at vs)) = λ y. ap (λ q. in_values y (slice_range q (at + length put) (at + length put + out))) ws_is ∙ ap (in_values y) (out_is vs put at out fits) in
          let sw : IsSwapped a d x (items_put (spliced vs at out put) s) = record {
            within = within;
            cells = cells;
            kind = items_kind (spliced vs at out put) s;
            counts = λ y l. omega (arith, p.counts y, re.counts y (lives_b y ∙ l), emptied.counts y, ins y, outs y, places_before y, items_places (spliced vs at out put) y s array, sum_spliced vs put at out fits (in_value y));
            gone = λ y l. omega (arith, p.counts y, re.gone y (lives_b y ∙ l), emptied.counts y);
          } in
          record {
            kept = swapped_kept a d x (items_put (spliced vs at out put) s) sw total total' k (items_known (cells_of a) (spliced vs at out put) s array (all_spliced vs put at out fits (λ v. knows (cells_of a) v ≡ true) (items_all (cells_of a) s array (k.known x)) known)) (omega (arith, w, sum_by-set slot_weight (cells_of a) x (items_put (spliced vs at out put) s) None within_cells, k.weighed)) light;
            cells_are = cells;
            held = swapped_held a d x (items_put (spliced vs at out put) s) sw total k;
          }

    -- what putting values in the place of others needs
    module _ (known : KnowsAll (cells_of a) put) where
      abbrev ns : List Value
      ns = take at vs ++ put ++ drop at vs

      long_b : length b ≡ length (cells_of a)
      long_b = sym (length-map b (λ s. s.cell)) ∙ ap length emptied.cells ∙ length-set (cells_of a) x (items_put [] s)

      each_within : (us : List Value) → KnowsAll (cells_of a) us → All (λ v. place_of v < length b) us
      each_within us n = λ i d l. rw long_b (value_within (cells_of a) (get_or us i d) (rw (length-map a (λ s. s.cell)) k.some) (n i d l))

      pub put_within : All (λ v. place_of v < length b) put
      put_within = each_within put known

      pub before_within : All (λ v. place_of v < length b) (take out (drop at vs))
      before_within = each_within (take out (drop at vs)) (All-take (λ v. knows (cells_of a) v ≡ true) out (drop at vs) (All-drop (λ v. knows (cells_of a) v ≡ true) at vs (items_all (cells_of a) s array (k.known x))))

      pub put_room : sum_by item_weight put ≤ 67108864 → (y : ℕ) → count_at b y + in_values y put < 2 ^ 128
      put_room light y = omega (arith, emptied.counts y, k.few y, k.weighed, k.light, in_cells_le y (cells_of a), values_le y put, light)

      pub before_held : (y : ℕ) → lives b y ≡ true → in_values y (take out (drop at vs)) ≤ count_at b y
      before_held y l = omega (arith, emptied.counts y, k.counted y (sym (lives_b y) ∙ l), slot_le y x (cells_of a), places_before y, part_le vs put at out fits (in_value y))

      pub replaced_now : (c d : List Slot) (us : List Value) (total' : ℕ) → IsRecounted b c (λ y. in_values y put) none_more (λ y. in_values y (take out (drop at vs))) → us ≡ spliced vs at out put → IsPut c d x (items_put us (cell_at (cells_of c) x)) → total' ≡ weight (set (cells_of a) x (items_put (spliced vs at out put) s)) → total' ≤ 67108864 → IsNow a d total' (set (cells_of a) x (items_put (spliced vs at out put) s))
      replaced_now c d us total' re us_is p w light =
          let Ins : List Value → Type 0 = λ q. IsRecounted b c (λ y. in_values y q) none_more (λ y. in_values y (slice_range ns (at + length put) (at + length put + out))) in
          let Outs : List Value → Type 0 = λ q. IsRecounted b c (λ y. in_values y put) none_more (λ y. in_values y q) in
          traded_now known ns refl c d us total' (subst Ins (sym (put_is vs put at out fits)) (subst Outs (sym (out_is vs put at out fits)) re)) (us_is ∙ sym (rest_is vs put at out fits)) p w light
