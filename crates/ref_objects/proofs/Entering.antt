-- An entry is put into a dictionary, or a key is taken out.
use Rattle.std.proofs.Common.{◌≡◌, ℕ, ◌+◌, ◌-◌, ◌<◌, ◌≤◌, ◌^◌, Bool, true, false, cond, List, [], ◌∷◌, suc, length, set, refl, sym, ◌∙◌, ap, subst, Option, Some, None, is_some, arith, All}
use Rattle.std.specs.List.{sum_by}
use Rattle.std.specs.Map.{lookup}
use Rattle.std.specs.Cmp.Lexicographic.{pointwise}
use Rattle.std.specs.Prelude.{nat_eq, IfSome}
use Rattle.std.proofs.lemmas.List.{length-map, length-set}
use Rattle.std.proofs.lemmas.List.Elements.{All-head, All-tail, All-cons}
use Rattle.std.proofs.lemmas.List.Sums.{sum_by-set, sum_by-cons}
use Rattle.std.proofs.lemmas.Bool.{false≢true, and_parts, eqb-true, eq-eqb}
use Rattle.variant_values.specs.declared.values.Value.{Value}
use Rattle.variant_values.specs.declared.values.Key.{Key}
use Rattle.variant_values.specs.declared.values.Key.TheVariants.{Bool as KeyTruth, Int as KeyInt, Str as KeyStr, Object as KeyObject}
use Rattle.variant_values.specs.declared.cells.Cell.{Cell}
use Rattle.variant_values.specs.declared.cells.Cell.TheVariants.{Array as ArrayCell, Dict as DictCell, Object as ObjectCell}
use Rattle.variant_values.specs.Keys.{same_key, with_entry, without_entry}
use Rattle.variant_values.specs.Places.{place_of, key_place, one_at, in_value, in_key, in_entry, in_entries, in_slot, key_weight, text_weight, entry_weight, slot_weight, weight}
use Rattle.variant_values.specs.Heaps.{cell_at, is_dict, entries_of, entries_put, knows, knows_key, KnowsSlot}
use Rattle.variant_values.proofs.Sweeping.{slot_le}
use Rattle.variant_values.proofs.Knowing.{value_within, key_within}
use Rattle.ref_objects.specs.declared.slots.Slot.{Slot}
use Rattle.ref_objects.specs.Slots.{count_at, cells_of, lives, IsKept, IsPut, IsNow, IsRaised, IsLowered, IsRecounted, key_more, value_at, value_less}
use Rattle.ref_objects.proofs.Raising.{lives-cells, lives_same}
use Rattle.ref_objects.proofs.Weights.{in_cells_le}
use Rattle.ref_objects.proofs.Putting.{slot_weight_le}
use Rattle.ref_objects.proofs.Swapping.{IsSameKind, IsSwapped, kind_kept, swapped_kept, swapped_held}

-- what is told of a value, where there is one
abbrev pub less_of : (Value → ℕ) → Option Value → ℕ
less_of f None = 0
less_of f (Some v) = f v

-- what is told of a key that is new
abbrev pub more_of : (Key → ℕ) → Key → Option Value → ℕ
more_of f k None = f k
more_of f k (Some v) = 0

-- what is told of an entry, where there is one
abbrev pub both_of : (Key → ℕ) → (Value → ℕ) → Key → Option Value → ℕ
both_of f g k None = 0
both_of f g k (Some v) = f k + g v

module _ (f : Key × Value → ℕ) (fk : Key → ℕ) (fv : Value → ℕ) (parts : (e : Key × Value) → f e ≡ fk e.0 + fv e.1) where
  put_sum : (es : List (Key × Value)) (k : Key) (v : Value) → sum_by f (with_entry es k v) + less_of fv (lookup (same_key k) es) ≡ sum_by f es + (more_of fk k (lookup (same_key k) es) + fv v)
  put_sum [] k v = omega (arith, sum_by-cons f (k, v) [], parts (k, v))
  put_sum (e ∷ es) k v = step (same_key k e.0) (put_sum es k v)
    where
      step : (b : Bool) → sum_by f (with_entry es k v) + less_of fv (lookup (same_key k) es) ≡ sum_by f es + (more_of fk k (lookup (same_key k) es) + fv v) → sum_by f (cond b ((e.0, v) ∷ es) (e ∷ with_entry es k v)) + less_of fv (cond b (Some e.1) (lookup (same_key k) es)) ≡ sum_by f (e ∷ es) + (more_of fk k (cond b (Some e.1) (lookup (same_key k) es)) + fv v)
      step true ih = omega (arith, sum_by-cons f (e.0, v) es, sum_by-cons f e es, parts e, parts (e.0, v))
      step false ih = omega (arith, sum_by-cons f e (with_entry es k v), sum_by-cons f e es, ih)

  take_sum : ((a b : Key) → same_key a b ≡ true → fk b ≡ fk a) → (es : List (Key × Value)) (k : Key) → sum_by f (without_entry es k) + both_of fk fv k (lookup (same_key k) es) ≡ sum_by f es
  take_sum alike [] k = refl
  take_sum alike (e ∷ es) k = step (same_key k e.0) refl (take_sum alike es k)
    where
      step : (b : Bool) → same_key k e.0 ≡ b → sum_by f (without_entry es k) + both_of fk fv k (lookup (same_key k) es) ≡ sum_by f es → sum_by f (cond b es (e ∷ without_entry es k)) + both_of fk fv k (cond b (Some e.1) (lookup (same_key k) es)) ≡ sum_by f (e ∷ es)
      step true h ih = omega (arith, sum_by-cons f e es, parts e, alike k e.0 h)
      step false h ih = omega (arith, sum_by-cons f e (without_entry es k), sum_by-cons f e es, ih)

-- equal keys stand for the same cell, and weigh the same
place_alike : (a b : Key) → same_key a b ≡ true → key_place b ≡ key_place a
place_alike (KeyTruth a) (KeyTruth b) h = refl
place_alike (KeyTruth a) (KeyInt b) h = refl
place_alike (KeyTruth a) (KeyStr b) h = refl
place_alike (KeyTruth a) (KeyObject b) h = absurd (false≢true h)
place_alike (KeyInt a) (KeyTruth b) h = refl
place_alike (KeyInt a) (KeyInt b) h = refl
place_alike (KeyInt a) (KeyStr b) h = refl
place_alike (KeyInt a) (KeyObject b) h = absurd (false≢true h)
place_alike (KeyStr a) (KeyTruth b) h = refl
place_alike (KeyStr a) (KeyInt b) h = refl
place_alike (KeyStr a) (KeyStr b) h = refl
place_alike (KeyStr a) (KeyObject b) h = absurd (false≢true h)
place_alike (KeyObject a) (KeyTruth b) h = absurd (false≢true h)
place_alike (KeyObject a) (KeyInt b) h = absurd (false≢true h)
place_alike (KeyObject a) (KeyStr b) h = absurd (false≢true h)
place_alike (KeyObject a) (KeyObject b) h = sym (eqb-true a.0 b.0 h)

text_alike : (a b : List ℕ) → pointwise nat_eq a b ≡ true → length b ≡ length a
text_alike [] [] h = refl
text_alike [] (y ∷ ys) h = absurd (false≢true h)
text_alike (x ∷ xs) [] h = absurd (false≢true h)
text_alike (x ∷ xs) (y ∷ ys) h = ap suc (text_alike xs ys ((and_parts (nat_eq x y) _ h).1))

weight_alike : (a b : Key) → same_key a b ≡ true → key_weight b ≡ key_weight a
weight_alike (KeyTruth a) (KeyTruth b) h = refl
weight_alike (KeyTruth a) (KeyInt b) h = refl
weight_alike (KeyTruth a) (KeyStr b) h = absurd (false≢true h)
weight_alike (KeyTruth a) (KeyObject b) h = refl
weight_alike (KeyInt a) (KeyTruth b) h = refl
weight_alike (KeyInt a) (KeyInt b) h = refl
weight_alike (KeyInt a) (KeyStr b) h = absurd (false≢true h)
weight_alike (KeyInt a) (KeyObject b) h = refl
weight_alike (KeyStr a) (KeyTruth b) h = absurd (false≢true h)
weight_alike (KeyStr a) (KeyInt b) h = absurd (false≢true h)
weight_alike (KeyStr a) (KeyStr b) h = text_alike a b h
weight_alike (KeyStr a) (KeyObject b) h = absurd (false≢true h)
weight_alike (KeyObject a) (KeyTruth b) h = refl
weight_alike (KeyObject a) (KeyInt b) h = refl
weight_alike (KeyObject a) (KeyStr b) h = absurd (false≢true h)
weight_alike (KeyObject a) (KeyObject b) h = refl

-- the places of an entry that is put in are counted
pub recounted_some : (a b c : List Slot) (key value p : ℕ) (v : Value) → IsRaised a b (λ y. one_at y value) → p ≡ place_of v → IsLowered b c (λ y. one_at y p) → IsRecounted a c (key_more key (Some v)) (value_at value) (value_less (Some v))
recounted_some a b c key value p v up e down = record {
  cells = down.cells ∙ up.cells;
  counts = λ y l. omega (arith, rw (lives_same a b up.cells y ∙ l) at (down.counts y), rw l at (up.counts y), ap (one_at y) e);
  gone = λ y l. omega (arith, rw (lives_same a b up.cells y ∙ l) at (down.counts y), rw l at (up.counts y));
}

pub recounted_none : (a b c : List Slot) (key value : ℕ) → IsRaised a b (λ y. one_at y value) → IsRaised b c (λ y. one_at y key) → IsRecounted a c (key_more key None) (value_at value) (value_less None)
recounted_none a b c key value up up' = record {
  cells = up'.cells ∙ up.cells;
  counts = λ y l. omega (arith, rw (lives_same a b up.cells y ∙ l) at (up'.counts y), rw l at (up.counts y));
  gone = λ y l. omega (arith, rw (lives_same a b up.cells y ∙ l) at (up'.counts y), rw l at (up.counts y));
}

-- what is counted after a rise may be counted less
pub still_held : (a b : List Slot) (value p : ℕ) → IsRaised a b (λ y. one_at y value) → (lives a p ≡ true → 1 ≤ count_at a p) → lives b p ≡ true → 1 ≤ count_at b p
still_held a b value p up h l =
    let la : lives a p ≡ true = sym (lives_same a b up.cells p) ∙ l in
    omega (arith, h la, rw la at (up.counts p))

-- what the entries name is known
abbrev KnowsEntry : List (Option Cell) → Key × Value → Type 0
KnowsEntry cells e = (knows_key cells e.0 ≡ true) × (knows cells e.1 ≡ true)

put_all : (cells : List (Option Cell)) (es : List (Key × Value)) (k : Key) (v : Value) → knows_key cells k ≡ true → knows cells v ≡ true → All (KnowsEntry cells) es → All (KnowsEntry cells) (with_entry es k v)
put_all cells [] k v hk hv a = All-cons (KnowsEntry cells) (k, v) [] (hk, hv) a
put_all cells (e ∷ es) k v hk hv a = step (same_key k e.0) (put_all cells es k v hk hv (All-tail (KnowsEntry cells) e es a))
  where
    step : (b : Bool) → All (KnowsEntry cells) (with_entry es k v) → All (KnowsEntry cells) (cond b ((e.0, v) ∷ es) (e ∷ with_entry es k v))
    step true ih = All-cons (KnowsEntry cells) (e.0, v) es ((All-head (KnowsEntry cells) e es a).0, hv) (All-tail (KnowsEntry cells) e es a)
    step false ih = All-cons (KnowsEntry cells) e (with_entry es k v) (All-head (KnowsEntry cells) e es a) ih

take_all : (cells : List (Option Cell)) (es : List (Key × Value)) (k : Key) → All (KnowsEntry cells) es → All (KnowsEntry cells) (without_entry es k)
take_all cells [] k a = a
take_all cells (e ∷ es) k a = step (same_key k e.0) (take_all cells es k (All-tail (KnowsEntry cells) e es a))
  where
    step : (b : Bool) → All (KnowsEntry cells) (without_entry es k) → All (KnowsEntry cells) (cond b es (e ∷ without_entry es k))
    step true ih = All-tail (KnowsEntry cells) e es a
    step false ih = All-cons (KnowsEntry cells) e (without_entry es k) (All-head (KnowsEntry cells) e es a) ih

found_known : (cells : List (Option Cell)) (es : List (Key × Value)) (k : Key) (v : Value) → lookup (same_key k) es ≡ Some v → All (KnowsEntry cells) es → knows cells v ≡ true
found_known cells [] k v h a = absurd (false≢true (ap is_some h))
found_known cells (e ∷ es) k v h a = step (same_key k e.0) refl (λ g. found_known cells es k v g (All-tail (KnowsEntry cells) e es a))
  where
    step : (b : Bool) → same_key k e.0 ≡ b → (lookup (same_key k) es ≡ Some v → knows cells v ≡ true) → knows cells v ≡ true
    step true s ih =
        let here : Some e.1 ≡ Some v = ap (λ b. cond b (Some e.1) (lookup (same_key k) es)) (sym s) ∙ h in
        let same : e.1 ≡ v = cc in
        ap (knows cells) (sym same) ∙ (All-head (KnowsEntry cells) e es a).1
    step false s ih = ih (ap (λ b. cond b (Some e.1) (lookup (same_key k) es)) (sym s) ∙ h)

-- a dictionary with other entries
dict_kind : (es : List (Key × Value)) (s : Option Cell) → IsSameKind s (entries_put es s)
dict_kind es None = record { array = refl; dict = refl; object = refl; alive = refl }
dict_kind es (Some (ArrayCell vs of)) = record { array = refl; dict = refl; object = refl; alive = refl }
dict_kind es (Some (DictCell fs)) = record { array = refl; dict = refl; object = refl; alive = refl }
dict_kind es (Some (ObjectCell o)) = record { array = refl; dict = refl; object = refl; alive = refl }

dict_places : (es : List (Key × Value)) (y : ℕ) (s : Option Cell) → is_dict s ≡ true → in_slot y (entries_put es s) ≡ in_entries y es
dict_places es y None d = absurd (false≢true d)
dict_places es y (Some (ArrayCell vs of)) d = absurd (false≢true d)
dict_places es y (Some (DictCell fs)) d = refl
dict_places es y (Some (ObjectCell o)) d = absurd (false≢true d)

dict_weight : (es : List (Key × Value)) (s : Option Cell) → is_dict s ≡ true → slot_weight (entries_put es s) ≡ 16 + sum_by entry_weight es
dict_weight es None d = absurd (false≢true d)
dict_weight es (Some (ArrayCell vs of)) d = absurd (false≢true d)
dict_weight es (Some (DictCell fs)) d = refl
dict_weight es (Some (ObjectCell o)) d = absurd (false≢true d)

dict_known : (cells : List (Option Cell)) (es : List (Key × Value)) (s : Option Cell) → is_dict s ≡ true → All (KnowsEntry cells) es → KnowsSlot cells (entries_put es s)
dict_known cells es None d a = absurd (false≢true d)
dict_known cells es (Some (ArrayCell vs of)) d a = absurd (false≢true d)
dict_known cells es (Some (DictCell fs)) d a = a
dict_known cells es (Some (ObjectCell o)) d a = absurd (false≢true d)

dict_same : (s : Option Cell) → is_dict s ≡ true → entries_put (entries_of s) s ≡ s
dict_same None d = refl
dict_same (Some (ArrayCell vs of)) d = absurd (false≢true d)
dict_same (Some (DictCell fs)) d = refl
dict_same (Some (ObjectCell o)) d = absurd (false≢true d)

dict_all : (cells : List (Option Cell)) (s : Option Cell) → is_dict s ≡ true → KnowsSlot cells s → All (KnowsEntry cells) (entries_of s)
dict_all cells None d k = absurd (false≢true d)
dict_all cells (Some (ArrayCell vs of)) d k = absurd (false≢true d)
dict_all cells (Some (DictCell fs)) d k = k
dict_all cells (Some (ObjectCell o)) d k = absurd (false≢true d)

module _ (a : List Slot) (x total : ℕ) (k : IsKept a total) (within : x < length a) (dict : is_dict (cell_at (cells_of a) x) ≡ true) where
  abbrev old : List (Key × Value)
  old = entries_of (cell_at (cells_of a) x)

  within_cells : x < length (cells_of a)
  within_cells = rw (length-map a (λ s. s.cell)) within

  places_before : (y : ℕ) → in_slot y (cell_at (cells_of a) x) ≡ in_entries y old
  places_before y = ap (in_slot y) (sym (dict_same (cell_at (cells_of a) x) dict)) ∙ dict_places old y (cell_at (cells_of a) x) dict

  weight_before : slot_weight (cell_at (cells_of a) x) ≡ 16 + sum_by entry_weight old
  weight_before = ap slot_weight (sym (dict_same (cell_at (cells_of a) x) dict)) ∙ dict_weight old (cell_at (cells_of a) x) dict

  known_before : All (KnowsEntry (cells_of a)) old
  known_before = dict_all (cells_of a) (cell_at (cells_of a) x) dict (k.known x)

  -- what all cells weigh with other entries
  weight_put : (es : List (Key × Value)) → weight (set (cells_of a) x (entries_put es (cell_at (cells_of a) x))) + sum_by entry_weight old ≡ total + sum_by entry_weight es
  weight_put es = omega (arith, sum_by-set slot_weight (cells_of a) x (entries_put es (cell_at (cells_of a) x)) None within_cells, weight_before, dict_weight es (cell_at (cells_of a) x) dict, k.weighed)

  light_before : 16 + sum_by entry_weight old ≤ total
  light_before = omega (arith, slot_weight_le x (cells_of a), weight_before, k.weighed)

  entry_parts : (e : Key × Value) → entry_weight e ≡ (4 + key_weight e.0) + text_weight e.1
  entry_parts e = omega arith

  -- an entry that is put in
  module _ (key : Key) (to : Value) where
    abbrev new : List (Key × Value)
    new = with_entry old key to

    abbrev t : Option Cell
    t = entries_put new (cell_at (cells_of a) x)

    pub weight_new : (o : Option Value) → o ≡ lookup (same_key key) old → weight (set (cells_of a) x t) + less_of text_weight o ≡ total + (more_of (λ q. 4 + key_weight q) key o + text_weight to)
    weight_new o e = rw e (omega (arith, weight_put new, put_sum entry_weight (λ q. 4 + key_weight q) text_weight entry_parts old key to))

    pub text_light : (v : Value) → Some v ≡ lookup (same_key key) old → text_weight v ≤ total
    text_light v e = let s = take_sum entry_weight (λ q. 4 + key_weight q) text_weight entry_parts (λ p q h. ap (λ n. 4 + n) (weight_alike p q h)) old key in
        let P : Option Value → Type 0 = λ o. sum_by entry_weight (without_entry old key) + both_of (λ q. 4 + key_weight q) text_weight key o ≡ sum_by entry_weight old in
        omega (arith, subst P (sym e) s, light_before)

    pub weight_some : (v : Value) → Some v ≡ lookup (same_key key) old → weight (set (cells_of a) x t) ≡ total - text_weight v + text_weight to
    weight_some v e = omega (arith, weight_new (Some v) e, text_light v e)

    pub weight_none : None ≡ lookup (same_key key) old → weight (set (cells_of a) x t) ≡ total + entry_weight (key, to)
    weight_none e = omega (arith, weight_new None e)

    -- the value before is known and held
    pub before_known : (v : Value) → Some v ≡ lookup (same_key key) old → knows (cells_of a) v ≡ true
    before_known v e = found_known (cells_of a) old key v (sym e) known_before

    pub before_places : (v : Value) (y : ℕ) → Some v ≡ lookup (same_key key) old → in_key y key + in_value y v ≤ in_slot y (cell_at (cells_of a) x)
    before_places v y e =
        let s = take_sum (in_entry y) (in_key y) (in_value y) (λ e. refl) (λ p q h. ap (one_at y) (place_alike p q h)) old key in
        let P : Option Value → Type 0 = λ o. in_entries y (without_entry old key) + both_of (in_key y) (in_value y) key o ≡ in_entries y old in
        omega (arith, subst P (sym e) s, places_before y)

    module _ (b c : List Slot) (total' : ℕ) (put : IsPut a b x t) (before : Option Value) (was : before ≡ lookup (same_key key) old) (kp vp : ℕ) (kp_is : kp ≡ key_place key) (vp_is : vp ≡ place_of to) (re : IsRecounted b c (key_more kp before) (value_at vp) (value_less before)) where
      lives_b : (y : ℕ) → lives b y ≡ lives a y
      lives_b y = sym (lives-cells b y) ∙ ap (λ cells. is_some (cell_at cells y)) put.cells ∙ kind_kept is_some (cells_of a) x y t within_cells (dict_kind new (cell_at (cells_of a) x)).alive ∙ lives-cells a y

      more_is : (y : ℕ) (o : Option Value) → key_more kp o y ≡ more_of (in_key y) key o
      more_is y None = ap (one_at y) kp_is
      more_is y (Some v) = refl

      less_is : (y : ℕ) (o : Option Value) → value_less o y ≡ less_of (in_value y) o
      less_is y None = refl
      less_is y (Some v) = refl

      sums : (y : ℕ) (o : Option Value) → o ≡ lookup (same_key key) old → in_entries y new + less_of (in_value y) o ≡ in_entries y old + (more_of (in_key y) key o + in_value y to)
      sums y o e = rw e (put_sum (in_entry y) (in_key y) (in_value y) (λ e. refl) old key to)

      entered : IsSwapped a c x t
      entered = record {
        within = within;
        cells = re.cells ∙ put.cells;
        kind = dict_kind new (cell_at (cells_of a) x);
        counts = λ y l. omega (arith, re.counts y (lives_b y ∙ l), put.counts y, more_is y before, less_is y before, ap (one_at y) vp_is, sums y before was, places_before y, dict_places new y (cell_at (cells_of a) x) dict);
        gone = λ y l. re.gone y (lives_b y ∙ l) ∙ put.counts y;
      }

      pub entered_now : knows_key (cells_of a) key ≡ true → knows (cells_of a) to ≡ true → total' ≡ weight (set (cells_of a) x t) → total' ≤ 67108864 → IsNow a c total' (set (cells_of a) x t)
      entered_now hk hv w light = record {
        kept = swapped_kept a c x t entered total total' k (dict_known (cells_of a) new (cell_at (cells_of a) x) dict (put_all (cells_of a) old key to hk hv known_before)) (omega (arith, w, sum_by-set slot_weight (cells_of a) x t None within_cells, k.weighed)) light;
        cells_are = entered.cells;
        held = swapped_held a c x t entered total k;
      }

    -- what the put entry needs of the counts
    module _ (b : List Slot) (put : IsPut a b x t) where
      same_length : length b ≡ length (cells_of a)
      same_length = sym (length-map b (λ s. s.cell)) ∙ ap length put.cells ∙ length-set (cells_of a) x t

      pub put_room : (y : ℕ) → count_at b y + 2 < 2 ^ 128
      put_room y = omega (arith, put.counts y, k.few y, k.weighed, k.light, in_cells_le y (cells_of a))

      pub put_value : (v : Value) → Some v ≡ lookup (same_key key) old → (place_of v < length b) × (lives b (place_of v) ≡ true → 1 ≤ count_at b (place_of v))
      put_value v e = (rw same_length (value_within (cells_of a) v (rw (length-map a (λ s. s.cell)) k.some) (before_known v e)), held)
        where
          held : lives b (place_of v) ≡ true → 1 ≤ count_at b (place_of v)
          held l =
              let la : lives a (place_of v) ≡ true = sym (sym (lives-cells b (place_of v)) ∙ ap (λ cells. is_some (cell_at cells (place_of v))) put.cells ∙ kind_kept is_some (cells_of a) x (place_of v) t within_cells (dict_kind new (cell_at (cells_of a) x)).alive ∙ lives-cells a (place_of v)) ∙ l in
              let one : in_value (place_of v) v ≡ 1 = ap (λ b. cond b 1 0) (eq-eqb (place_of v) (place_of v) refl) in
              omega (arith, put.counts (place_of v), k.counted (place_of v) la, slot_le (place_of v) x (cells_of a), before_places v (place_of v) e, one)

      pub put_before : (o : Option Value) → o ≡ lookup (same_key key) old → IfSome o (λ v. (place_of v < length b) × (lives b (place_of v) ≡ true → 1 ≤ count_at b (place_of v)))
      put_before None e = tt
      put_before (Some v) e = put_value v e

      pub put_key : knows_key (cells_of a) key ≡ true → key_place key < length b
      put_key h = rw same_length (key_within (cells_of a) key (rw (length-map a (λ s. s.cell)) k.some) h)

  -- a key that is taken out
  module _ (key : Key) where
    abbrev rest : List (Key × Value)
    rest = without_entry old key

    abbrev u : Option Cell
    u = entries_put rest (cell_at (cells_of a) x)

    places_less : (o : Option Value) → o ≡ lookup (same_key key) old → (y : ℕ) → in_entries y rest + both_of (in_key y) (in_value y) key o ≡ in_entries y old
    places_less o e y = rw e (take_sum (in_entry y) (in_key y) (in_value y) (λ e. refl) (λ p q h. ap (one_at y) (place_alike p q h)) old key)

    weight_less : (o : Option Value) → o ≡ lookup (same_key key) old → sum_by entry_weight rest + both_of (λ q. 4 + key_weight q) text_weight key o ≡ sum_by entry_weight old
    weight_less o e = rw e (take_sum entry_weight (λ q. 4 + key_weight q) text_weight entry_parts (λ p q h. ap (λ n. 4 + n) (weight_alike p q h)) old key)

    left_now : (c : List Slot) (total' : ℕ) (o : Option Value) → o ≡ lookup (same_key key) old → cells_of c ≡ set (cells_of a) x u → ((y : ℕ) → lives a y ≡ true → count_at c y + both_of (in_key y) (in_value y) key o ≡ count_at a y) → ((y : ℕ) → lives a y ≡ false → count_at c y ≡ count_at a y) → total' + both_of (λ q. 4 + key_weight q) text_weight key o ≡ total → IsNow a c total' (set (cells_of a) x u)
    left_now c total' o e cells counts gone less =
        let s : IsSwapped a c x u = record {
          within = within;
          cells = cells;
          kind = dict_kind rest (cell_at (cells_of a) x);
          counts = λ y l. omega (arith, counts y l, places_less o e y, places_before y, dict_places rest y (cell_at (cells_of a) x) dict);
          gone = gone;
        } in
        record {
          kept = swapped_kept a c x u s total total' k (dict_known (cells_of a) rest (cell_at (cells_of a) x) dict (take_all (cells_of a) old key known_before)) (omega (arith, less, weight_less o e, weight_before, dict_weight rest (cell_at (cells_of a) x) dict)) (omega (arith, less, k.light));
          cells_are = cells;
          held = swapped_held a c x u s total k;
        }

    pub absent_now : (b : List Slot) → None ≡ lookup (same_key key) old → IsPut a b x u → IsNow a b total (set (cells_of a) x u)
    absent_now b e put = left_now b total None e put.cells (λ y l. omega (arith, put.counts y)) (λ y l. put.counts y) (omega arith)

    module _ (b : List Slot) (v : Value) (e : Some v ≡ lookup (same_key key) old) (put : IsPut a b x u) where
      length_b : length b ≡ length (cells_of a)
      length_b = sym (length-map b (λ s. s.cell)) ∙ ap length put.cells ∙ length-set (cells_of a) x u

      living_b : (y : ℕ) → lives b y ≡ lives a y
      living_b y = sym (lives-cells b y) ∙ ap (λ cells. is_some (cell_at cells y)) put.cells ∙ kind_kept is_some (cells_of a) x y u within_cells (dict_kind rest (cell_at (cells_of a) x)).alive ∙ lives-cells a y

      both_held : (y : ℕ) → lives a y ≡ true → in_key y key + in_value y v ≤ count_at b y
      both_held y l = omega (arith, put.counts y, k.counted y l, slot_le y x (cells_of a), places_less (Some v) e y, places_before y)

      pub weight_taken : entry_weight (key, v) ≤ total
      weight_taken = omega (arith, weight_less (Some v) e, light_before)

      pub key_in : (kp : ℕ) → kp ≡ key_place key → knows_key (cells_of a) key ≡ true → kp < length b
      key_in kp h n = rw (h, length_b) (key_within (cells_of a) key (rw (length-map a (λ s. s.cell)) k.some) n)

      pub key_held : (kp : ℕ) → kp ≡ key_place key → lives b kp ≡ true → 1 ≤ count_at b kp
      key_held kp h l =
          let one : in_key kp key ≡ 1 = ap (λ b. cond b 1 0) (eq-eqb (key_place key) kp (sym h)) in
          omega (arith, both_held kp (sym (living_b kp) ∙ l), one)

      module _ (c : List Slot) (kp : ℕ) (kp_is : kp ≡ key_place key) (down : IsLowered b c (λ y. one_at y kp)) where
        living_c : (y : ℕ) → lives c y ≡ lives a y
        living_c y = lives_same b c down.cells y ∙ living_b y

        pub value_in : (vp : ℕ) → vp ≡ place_of v → vp < length c
        value_in vp h =
            let length_c : length c ≡ length b = sym (length-map c (λ s. s.cell)) ∙ ap length down.cells ∙ length-map b (λ s. s.cell) in
            rw (h, length_c, length_b) (value_within (cells_of a) v (rw (length-map a (λ s. s.cell)) k.some) (found_known (cells_of a) old key v (sym e) known_before))

        pub value_held : (vp : ℕ) → vp ≡ place_of v → lives c vp ≡ true → 1 ≤ count_at c vp
        value_held vp h l =
            let la : lives a vp ≡ true = sym (living_c vp) ∙ l in
            let one : in_value vp v ≡ 1 = ap (λ b. cond b 1 0) (eq-eqb (place_of v) vp (sym h)) in
            omega (arith, both_held vp la, one, rw (living_b vp ∙ la) at (down.counts vp), ap (one_at vp) kp_is)

        pub taken_now : (d : List Slot) (vp w : ℕ) → vp ≡ place_of v → IsLowered c d (λ y. one_at y vp) → w ≡ entry_weight (key, v) → IsNow a d (total - w) (set (cells_of a) x u)
        taken_now d vp w h down' we = left_now d (total - w) (Some v) e (down'.cells ∙ down.cells ∙ put.cells) (λ y l. omega (arith, rw (living_c y ∙ l) at (down'.counts y), rw (living_b y ∙ l) at (down.counts y), put.counts y, ap (one_at y) kp_is, ap (one_at y) h)) (λ y l. omega (arith, rw (living_c y ∙ l) at (down'.counts y), rw (living_b y ∙ l) at (down.counts y), put.counts y)) (omega (arith, we, weight_taken))
