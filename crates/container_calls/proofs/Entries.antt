-- Entries, as they are put in, taken out and listed.
use Rattle.std.proofs.Common.{◌≡◌, ℕ, ◌+◌, ◌-◌, ◌<◌, ◌≤◌, ◌^◌, ◌∙◌, ap, sym, subst, Bool, true, false, cond, List, [], ◌∷◌, ◌++◌, length, map, take, drop, get_or, set, Option, Some, None, arith, nat_le, nat_lt, refl, suc, zero, inl, inr}
use Rattle.std.specs.Prelude.{slice_get, All, IfSome}
use Rattle.std.specs.List.{sum_by}
use Rattle.std.specs.Map.{lookup}
use Rattle.std.proofs.lemmas.Bool.{cases_lt}
use Rattle.std.proofs.lemmas.Bool.Decides.{nat_tests}
use Rattle.std.proofs.lemmas.Cmp.{nat_list_eq_equiv, nat_eq_equiv, int_eq_equiv}
use Rattle.std.specs.Cmp.{bool_eq_equiv}
use Rattle.std.proofs.lemmas.List.{map_more, at_drop_more, get_or-set_same, set-set, get_or_past}
use Rattle.std.proofs.lemmas.List.Elements.{All-cons, All-head, All-tail}
use Rattle.std.proofs.lemmas.List.Sums.{sum_by-cons, get_or-le-sum_by}
use Rattle.std.proofs.lemmas.Option.{get_or_from_slice_get, slice_get_within, slice_get-get_or}
use Rattle.variant_values.specs.declared.cells.Cell.{Cell}
use Rattle.variant_values.specs.declared.cells.Cell.TheVariants.{Array as ArrayCell, Dict as DictCell, Object as ObjectCell}
use Rattle.variant_values.specs.declared.values.Key.{Key}
use Rattle.variant_values.specs.declared.values.Key.TheVariants.{Bool as KeyTruth, Int as KeyInt, Str as KeyStr, Object as KeyObject}
use Rattle.variant_values.specs.declared.values.Value.{Value}
use Rattle.variant_values.specs.Heaps.{Heap, cell_at, entries_of, entries_put, is_dict, knows, knows_key, without_entry_at, KnowsAll}
use Rattle.variant_values.specs.Keys.{same_key, with_entry, without_entry}
use Rattle.variant_values.specs.Places.{entry_weight, slot_weight, weight}
use Rattle.variant_values.specs.Sound.{IsSound}
use Rattle.variant_values.proofs.Knowing.{dict_within}
use Rattle.variant_values.specs.DictMethods.{entries_in, value_of_key, with_entries}
use Rattle.variant_values.specs.Heaps.{KnowsEntries}
use Rattle.container_calls.specs.Walks.{IsLastKey}

pub length_present : (es : List (Key × Value)) (k : Key) (v w : Value) → lookup (same_key k) es ≡ Some w → length (with_entry es k v) ≡ length es
length_present [] k v w found = cc
length_present (e ∷ es) k v w found = by (same_key k e.0) found (length_present es k v w)
  where
    by : (b : Bool) → cond b (Some e.1) (lookup (same_key k) es) ≡ Some w → (lookup (same_key k) es ≡ Some w → length (with_entry es k v) ≡ length es) → length (cond b ((e.0, v) ∷ es) (e ∷ with_entry es k v)) ≡ length (e ∷ es)
    by true g later = refl
    by false g later = ap suc (later g)

pub length_absent : (es : List (Key × Value)) (k : Key) (v : Value) → lookup (same_key k) es ≡ None → length (with_entry es k v) ≡ length es + 1
length_absent [] k v none = omega arith
length_absent (e ∷ es) k v none = by (same_key k e.0) none (length_absent es k v)
  where
    by : (b : Bool) → cond b (Some e.1) (lookup (same_key k) es) ≡ None → (lookup (same_key k) es ≡ None → length (with_entry es k v) ≡ length es + 1) → length (cond b ((e.0, v) ∷ es) (e ∷ with_entry es k v)) ≡ length (e ∷ es) + 1
    by true g later = cc
    by false g later = let more = later g in omega (arith, more)

pub below : (n m k : ℕ) → m ≡ n + 1 → nat_lt n k ≡ nat_le m k
below n m k e = grind (arith, nat_tests)

pub map_next : {B : Type 0} (f : Key × Value → B) (es : List (Key × Value)) (i : ℕ) (e : Key × Value) → slice_get es i ≡ Some e → map f (take (i + 1) es) ≡ map f (take i es) ++ f e ∷ []
map_next f es i e at = map_more f es i e (slice_get_within es i e at) ∙ ap (λ x. map f (take i es) ++ f x ∷ []) (get_or_from_slice_get es i e e at)

abbrev Known : List (Option Cell) → Key × Value → Type 0
Known cells e = (knows_key cells e.0 ≡ true) × (knows cells e.1 ≡ true)

key_known : (cells : List (Option Cell)) (k : Key) → knows_key cells k ≡ true → knows cells (value_of_key k) ≡ true
key_known cells (KeyTruth b) h = h
key_known cells (KeyInt n) h = h
key_known cells (KeyStr s) h = h
key_known cells (KeyObject s) h = h

pub keys_known : (cells : List (Option Cell)) (es : List (Key × Value)) → KnowsEntries cells es → KnowsAll cells (map (λ e. value_of_key e.0) es)
keys_known cells [] k = λ i d l. absurd (omega (arith, l))
keys_known cells (e ∷ es) k = All-cons (λ (v : Value). knows cells v ≡ true) (value_of_key e.0) (map (λ f. value_of_key f.0) es) (key_known cells e.0 (All-head (Known cells) e es k).0) (keys_known cells es (All-tail (Known cells) e es k))

pub values_known : (cells : List (Option Cell)) (es : List (Key × Value)) → KnowsEntries cells es → KnowsAll cells (map (λ e. e.1) es)
values_known cells [] k = λ i d l. absurd (omega (arith, l))
values_known cells (e ∷ es) k = All-cons (λ (v : Value). knows cells v ≡ true) e.1 (map (λ f. f.1) es) (All-head (Known cells) e es k).1 (values_known cells es (All-tail (Known cells) e es k))

same_own : (k : Key) → same_key k k ≡ true
same_own (KeyTruth b) = bool_eq_equiv.refl b
same_own (KeyInt n) = int_eq_equiv.refl n
same_own (KeyStr s) = nat_list_eq_equiv.refl s
same_own (KeyObject s) = nat_eq_equiv.refl s.0

length_without : (es : List (Key × Value)) (i : ℕ) (e : Key × Value) (k : Key) → slice_get es i ≡ Some e → e.0 ≡ k → length (without_entry es k) + 1 ≡ length es
length_without [] i e k at is = cc
length_without (f ∷ es) zero e k at is =
    let same : f.0 ≡ k = let one : f ≡ e = cc in ap (λ (x : Key × Value). x.0) one ∙ is in
    let test : same_key k f.0 ≡ true = ap (same_key k) same ∙ same_own k in
    ap (λ b. length (cond b es (f ∷ without_entry es k)) + 1) test ∙ omega arith
length_without (f ∷ es) (suc i) e k at is = by (length_without es i e k at is) (same_key k f.0)
  where
    by : length (without_entry es k) + 1 ≡ length es → (b : Bool) → length (cond b es (f ∷ without_entry es k)) + 1 ≡ length (f ∷ es)
    by later true = omega arith
    by later false = omega (arith, later)

none_last : (es : List (Key × Value)) → 0 < length es → slice_get es (length es - 1) ≡ None → ⊥
none_last [] l none = absurd (omega (arith, l))
none_last (e ∷ es) l none = let some = slice_get-get_or (e ∷ es) (length (e ∷ es) - 1) e (omega arith) in cc

last_length : (es : List (Key × Value)) (k : Key) → IsLastKey (Some k) es → length (without_entry es k) < length es
last_length es k h = from (slice_get es (length es - 1)) refl h.0
  where
    from : (o : Option (Key × Value)) → slice_get es (length es - 1) ≡ o → IfSome o (λ e. e.0 ≡ k) → length (without_entry es k) < length es
    from None none g = absurd (none_last es h.1 none)
    from (Some e) at g = omega (arith, length_without es (length es - 1) e k at g)

-- a dictionary with other entries
dict_put : (es : List (Key × Value)) (c : Option Cell) → is_dict c ≡ true → is_dict (entries_put es c) ≡ true
dict_put es None h = h
dict_put es (Some (ArrayCell vs of)) h = h
dict_put es (Some (DictCell fs)) h = refl
dict_put es (Some (ObjectCell o)) h = h

entries_then : (es : List (Key × Value)) (c : Option Cell) → is_dict c ≡ true → entries_of (entries_put es c) ≡ es
entries_then es None h = cc
entries_then es (Some (ArrayCell vs of)) h = cc
entries_then es (Some (DictCell fs)) h = refl
entries_then es (Some (ObjectCell o)) h = cc

put_twice : (es fs : List (Key × Value)) (c : Option Cell) → entries_put fs (entries_put es c) ≡ entries_put fs c
put_twice es fs None = refl
put_twice es fs (Some (ArrayCell vs of)) = refl
put_twice es fs (Some (DictCell gs)) = refl
put_twice es fs (Some (ObjectCell o)) = refl

with_twice : (old : Heap) (x : ℕ) → is_dict (cell_at old.cells x) ≡ true → (es fs : List (Key × Value)) → with_entries (with_entries old x es) x fs ≡ with_entries old x fs
with_twice old x was es fs =
    ap (λ c. record old { cells = set (set old.cells x (entries_put es (cell_at old.cells x))) x (entries_put fs c) }) (get_or-set_same old.cells x (entries_put es (cell_at old.cells x)) None (dict_within old.cells x was))
    ∙ ap (λ c. record old { cells = set (set old.cells x (entries_put es (cell_at old.cells x))) x c }) (put_twice es fs (cell_at old.cells x))
    ∙ ap (λ cells. record old { cells = cells }) (set-set old.cells x (entries_put es (cell_at old.cells x)) (entries_put fs (cell_at old.cells x)))

module _ (h : Heap) (x : ℕ) (dict : is_dict (cell_at h.cells x) ≡ true) (k : Key) where
  cell_then : cell_at (without_entry_at h x k).cells x ≡ entries_put (without_entry (entries_in h x) k) (cell_at h.cells x)
  cell_then = get_or-set_same h.cells x (entries_put (without_entry (entries_in h x) k) (cell_at h.cells x)) None (dict_within h.cells x dict)

  pub still_dict : is_dict (cell_at (without_entry_at h x k).cells x) ≡ true
  still_dict = ap is_dict cell_then ∙ dict_put (without_entry (entries_in h x) k) (cell_at h.cells x) dict

  left : entries_in (without_entry_at h x k) x ≡ without_entry (entries_in h x) k
  left = ap entries_of cell_then ∙ entries_then (without_entry (entries_in h x) k) (cell_at h.cells x) dict

  pub fewer : IsLastKey (Some k) (entries_in h x) → length (entries_in (without_entry_at h x k) x) < length (entries_in h x)
  fewer l = omega (arith, ap length left, last_length (entries_in h x) k l)

  pub still_put : (old : Heap) → is_dict (cell_at old.cells x) ≡ true → h ≡ with_entries old x (entries_in h x) → without_entry_at h x k ≡ with_entries old x (entries_in (without_entry_at h x k) x)
  still_put old was is =
      ap (λ (g : Heap). with_entries g x (without_entry (entries_in h x) k)) is
      ∙ with_twice old x was (entries_in h x) (without_entry (entries_in h x) k)
      ∙ ap (with_entries old x) (sym left)
