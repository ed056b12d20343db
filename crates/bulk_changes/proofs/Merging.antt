-- A merge, step by step.
use Rattle.std.proofs.Common.{◌≡◌, ◌≢◌, ◌∙◌, ap, sym, subst, refl, ℕ, suc, ◌+◌, ◌<◌, ◌≤◌, Bool, true, false, cond, List, [], ◌∷◌, length, take, drop, get_or, set, Option, Some, None, is_some, arith, Result, Ok, Err}
use Rattle.std.specs.Prelude.{slice_get, OnOk}
use Rattle.std.specs.List.{sum_by}
use Rattle.std.specs.Map.{lookup}
use Rattle.std.proofs.Math.Seq.{drop-cons}
use Rattle.std.proofs.lemmas.Bool.{le-leb, lt-leb}
use Rattle.std.proofs.lemmas.List.{get_or-set_same, get_or-set_other, set-get_or, set-set}
use Rattle.std.proofs.lemmas.List.Sums.{sum_by-set, sum_by-le-sum_by}
use Rattle.std.proofs.lemmas.Option.{get_or_from_slice_get, slice_get_within, slice_get-get_or}
use Rattle.variant_values.specs.declared.cells.Cell.{Cell}
use Rattle.variant_values.specs.declared.cells.Cell.TheVariants.{Array as ArrayCell, Dict as DictCell, Object as ObjectCell}
use Rattle.variant_values.specs.declared.faults.RunFault.TheVariants.{TooLong, HeapFull}
use Rattle.variant_values.specs.declared.values.Key.{Key}
use Rattle.variant_values.specs.declared.values.Key.TheVariants.{Bool as KeyTruth}
use Rattle.variant_values.specs.declared.values.Value.{Value}
use Rattle.variant_values.specs.declared.values.Value.TheVariants.{Null}
use Rattle.variant_values.specs.Heaps.{Heap, cell_at, entries_of, entries_put, is_dict, with_entry_at}
use Rattle.variant_values.specs.Keys.{same_key, with_entry, HasKeysOnce}
use Rattle.variant_values.specs.Places.{entry_weight, slot_weight, weight}
use Rattle.variant_values.specs.Changes.{weighed}
use Rattle.variant_values.specs.DictMethods.{entries_in, merge_of, merged, with_entries}
use Rattle.variant_values.proofs.Knowing.{dict_within}
use Rattle.variant_values.proofs.Sums.{sum_by_next}
use Rattle.bulk_changes.specs.Merges.{keys_more, weight_less, weight_more, weights_less, weights_more, with_put, HasNulls}
use Rattle.bulk_changes.proofs.Entries.{found_at, less_alike, less_next, merged_length, merged_own, merged_weight, null_less, overwritten, own_lookup, put_weight}

-- the next entry of those that are left
pub next_is : (fs : List (Key × Value)) (i : ℕ) (f : Key × Value) → slice_get fs i ≡ Some f → drop i fs ≡ f ∷ drop (i + 1) fs
next_is fs i f at =
    let more : suc i ≡ i + 1 = omega arith in
    drop-cons fs i f (slice_get_within fs i f at)
    ∙ ap (λ e. e ∷ drop (suc i) fs) (get_or_from_slice_get fs i f f at)
    ∙ ap (λ n. f ∷ drop n fs) more

-- what follows for each value of a call
pub after_ok : {A E : Type 0} (P Q : Type 0) (r : Result A E) → (P → Q) → OnOk r P → OnOk r Q
after_ok P Q (Ok v) f h = f h
after_ok P Q (Err e) f h = tt

-- a dictionary with other entries
dict_put : (es : List (Key × Value)) (c : Option Cell) → is_dict c ≡ true → is_dict (entries_put es c) ≡ true
dict_put es None h = h
dict_put es (Some (ArrayCell vs of)) h = h
dict_put es (Some (DictCell fs)) h = refl
dict_put es (Some (ObjectCell o)) h = h

entries_then : (es : List (Key × Value)) (c : Option Cell) → is_dict c ≡ true → entries_of (entries_put es c) ≡ es
entries_then es None h = cc
entries_then es (Some (ArrayCell vs of)) h = cc
entries_then es (Some (DictCell fs)) h = refl
entries_then es (Some (ObjectCell o)) h = cc

put_twice : (es fs : List (Key × Value)) (c : Option Cell) → entries_put fs (entries_put es c) ≡ entries_put fs c
put_twice es fs None = refl
put_twice es fs (Some (ArrayCell vs of)) = refl
put_twice es fs (Some (DictCell gs)) = refl
put_twice es fs (Some (ObjectCell o)) = refl

dict_weight : (es : List (Key × Value)) (c : Option Cell) → is_dict c ≡ true → slot_weight (entries_put es c) + sum_by entry_weight (entries_of c) ≡ slot_weight c + sum_by entry_weight es
dict_weight es None h = cc
dict_weight es (Some (ArrayCell vs of)) h = cc
dict_weight es (Some (DictCell fs)) h = omega arith
dict_weight es (Some (ObjectCell o)) h = cc

module _ (old : Heap) (x : ℕ) (dict : is_dict (cell_at old.cells x) ≡ true) where
  pub cell_then : (es : List (Key × Value)) → cell_at (with_entries old x es).cells x ≡ entries_put es (cell_at old.cells x)
  cell_then es = get_or-set_same old.cells x (entries_put es (cell_at old.cells x)) None (dict_within old.cells x dict)

  pub in_then : (es : List (Key × Value)) → entries_in (with_entries old x es) x ≡ es
  in_then es = ap entries_of (cell_then es) ∙ entries_then es (cell_at old.cells x) dict

  pub with_twice : (es fs : List (Key × Value)) → with_entries (with_entries old x es) x fs ≡ with_entries old x fs
  with_twice es fs =
      ap (λ c. record old { cells = set (set old.cells x (entries_put es (cell_at old.cells x))) x (entries_put fs c) }) (cell_then es)
      ∙ ap (λ c. record old { cells = set (set old.cells x (entries_put es (cell_at old.cells x))) x c }) (put_twice es fs (cell_at old.cells x))
      ∙ ap (λ cells. record old { cells = cells }) (set-set old.cells x (entries_put es (cell_at old.cells x)) (entries_put fs (cell_at old.cells x)))

  pub weight_then : (es : List (Key × Value)) → weight (with_entries old x es).cells + sum_by entry_weight (entries_in old x) ≡ weight old.cells + sum_by entry_weight es
  weight_then es = omega (arith, sum_by-set slot_weight old.cells x (entries_put es (cell_at old.cells x)) None (dict_within old.cells x dict), dict_weight es (cell_at old.cells x) dict)

  -- a heap that differs in that dictionary alone, and one more change of it
  pub then_put : (now : Heap) (es : List (Key × Value)) → now ≡ with_entries old x (entries_in now x) → with_entries now x es ≡ with_entries old x es
  then_put now es same = ap (λ (h : Heap). with_entries h x es) same ∙ with_twice (entries_in now x) es

-- the other dictionaries stay, and so does one that gets its own entries
pub other_stays : (old now : Heap) (x y : ℕ) → y ≢ x → now ≡ with_entries old x (entries_in now x) → entries_in now y ≡ entries_in old y
other_stays old now x y apart same = ap (λ (h : Heap). entries_in h y) same ∙ ap entries_of (get_or-set_other old.cells x y (entries_put (entries_in now x) (cell_at old.cells x)) None apart)

own_put : (c : Option Cell) → entries_put (entries_of c) c ≡ c
own_put None = refl
own_put (Some (ArrayCell vs of)) = refl
own_put (Some (DictCell fs)) = refl
own_put (Some (ObjectCell o)) = refl

pub own_entries : (h : Heap) (x : ℕ) → with_entries h x (entries_in h x) ≡ h
own_entries h x = ap (λ c. record h { cells = set h.cells x c }) (own_put (cell_at h.cells x)) ∙ ap (λ cells. record h { cells = cells }) (set-get_or h.cells x None)

-- an entry that is put in
pub is_put : (overwrite : Bool) (es : List (Key × Value)) (f : Key × Value) → is_some (lookup (same_key f.0) es) ≡ false → with_put overwrite es f ≡ with_entry es f.0 f.1
is_put true es f none = refl
is_put false es f none = ap (λ b. cond b es (with_entry es f.0 f.1)) none

pub entered : (overwrite : Bool) (old new : Heap) (x : ℕ) (fs : List (Key × Value)) (i : ℕ) (f : Key × Value) → slice_get fs i ≡ Some f → with_put overwrite (entries_in old x) f ≡ with_entry (entries_in old x) f.0 f.1 → new ≡ with_entry_at old x f.0 f.1 → (g : Key × Value) → slice_get fs i ≡ Some g → new ≡ with_entries old x (with_put overwrite (entries_in old x) g)
entered overwrite old new x fs i f at put e g here =
    let same : f ≡ g = cc (at, here) in
    e ∙ sym (ap (with_entries old x) put) ∙ ap (λ (d : Key × Value). with_entries old x (with_put overwrite (entries_in old x) d)) same

-- null never weighs more than the value before
pub null_light : (h : Heap) (x : ℕ) (k : Key) → is_dict (cell_at h.cells x) ≡ true → is_some (lookup (same_key k) (entries_in h x)) ≡ true → weight (with_entry_at h x k Null).cells ≤ weight h.cells
null_light h x k dict there = by (lookup (same_key k) (entries_in h x)) there (put_weight (entries_in h x) k Null) (weight_then h x dict (with_entry (entries_in h x) k Null))
  where
    by : (o : Option Value) → is_some o ≡ true → sum_by entry_weight (with_entry (entries_in h x) k Null) + weight_less true o ≡ sum_by entry_weight (entries_in h x) + weight_more true o (k, Null) → weight (with_entry_at h x k Null).cells + sum_by entry_weight (entries_in h x) ≡ weight h.cells + sum_by entry_weight (with_entry (entries_in h x) k Null) → weight (with_entry_at h x k Null).cells ≤ weight h.cells
    by None t e w = cc
    by (Some v) t e w = omega (arith, e, w)

-- one more value is made null
pub nulls_next : (old now new : Heap) (x : ℕ) (put : List (Key × Value)) (i : ℕ) (f : Key × Value) → is_dict (cell_at old.cells x) ≡ true → is_dict (cell_at now.cells x) ≡ true → slice_get put i ≡ Some f → HasNulls old now x put (take i put) → new ≡ cond (is_some (lookup (same_key f.0) (entries_in now x))) (with_entry_at now x f.0 Null) now → HasNulls old new x put (take (i + 1) put)
nulls_next old now new x put i f was dict at before e = by (lookup (same_key f.0) es) refl e
  where
    es : List (Key × Value)
    es = entries_in now x

    by : (o : Option Value) → lookup (same_key f.0) es ≡ o → new ≡ cond (is_some o) (with_entry_at now x f.0 Null) now → HasNulls old new x put (take (i + 1) put)
    by None none e =
        subst (λ (h : Heap). HasNulls old h x put (take (i + 1) put)) (sym e) (record {
          same = before.same;
          outcome = before.outcome;
          light = omega (arith, sum_by_next (λ g. weight_less true (lookup (same_key g.0) es)) put i f at, before.light, ap (weight_less true) none);
        })
    by (Some v) found e =
        let fs : List (Key × Value) = with_entry es f.0 Null in
        let inside : entries_in (with_entry_at now x f.0 Null) x ≡ fs = in_then now x dict fs in
        let fewer : weights_less true fs (take i put) ≤ weights_less true es (take i put) = sum_by-le-sum_by (λ g. weight_less true (lookup (same_key g.0) fs)) (λ g. weight_less true (lookup (same_key g.0) es)) (take i put) (λ g. null_less es f.0 g.0) in
        let none : weights_less true fs (take (i + 1) put) ≡ 0 = omega (arith, sum_by_next (λ g. weight_less true (lookup (same_key g.0) fs)) put i f at, fewer, before.light, ap (weight_less true) (own_lookup es f.0 Null)) in
        subst (λ (h : Heap). HasNulls old h x put (take (i + 1) put)) (sym e) (record {
          same = then_put old x was now fs before.same ∙ sym (ap (with_entries old x) inside);
          outcome = ap (λ us. merged true us put) inside ∙ overwritten es put f.0 Null (found_at put i f at) (ap is_some found) ∙ before.outcome;
          light = ap (λ us. weights_less true us (take (i + 1) put)) inside ∙ none;
        })

-- the other dictionary's next entry
abbrev next : List (Key × Value) → ℕ → Key × Value
next es i = get_or es i (KeyTruth false, Null)

pub nulls_step : (old now new : Heap) (x y i : ℕ) → y ≢ x → is_dict (cell_at old.cells x) ≡ true → is_dict (cell_at now.cells x) ≡ true → i < length (entries_in old y) → HasNulls old now x (entries_in old y) (take i (entries_in old y)) → ((f : Key × Value) → slice_get (entries_in now y) i ≡ Some f → new ≡ cond (is_some (lookup (same_key f.0) (entries_in now x))) (with_entry_at now x f.0 Null) now) → HasNulls old new x (entries_in old y) (take (i + 1) (entries_in old y))
nulls_step old now new x y i apart was dict within before step =
    let f : Key × Value = next (entries_in old y) i in
    let at : slice_get (entries_in old y) i ≡ Some f = slice_get-get_or (entries_in old y) i (KeyTruth false, Null) within in
    nulls_next old now new x (entries_in old y) i f was dict at before (step f (ap (λ (es : List (Key × Value)). slice_get es i) (other_stays old now x y apart before.same) ∙ at))

-- some entries are put in, and others have to be
pub record IsEntering (overwrite : Bool) (old new : Heap) (x : ℕ) (put rest : List (Key × Value)) : Type 0 where
  pub same : new ≡ with_entries old x (entries_in new x)
  pub outcome : merged overwrite (entries_in new x) rest ≡ merged overwrite (entries_in old x) put
  pub light : weights_less overwrite (entries_in new x) rest ≡ 0
  pub once : HasKeysOnce rest

module _ (overwrite : Bool) (old now : Heap) (x : ℕ) (was : is_dict (cell_at old.cells x) ≡ true) (dict : is_dict (cell_at now.cells x) ≡ true) (put rest : List (Key × Value)) (f : Key × Value) (before : IsEntering overwrite old now x put (f ∷ rest)) where
  abbrev fs : List (Key × Value)
  fs = with_put overwrite (entries_in now x) f

  light_then : weights_less overwrite fs rest ≡ 0
  light_then = omega (arith, less_alike overwrite (entries_in now x) rest f before.once.0, less_next overwrite (entries_in now x) rest f, before.light)

  pub entering_next : (new : Heap) → new ≡ with_entries now x fs → IsEntering overwrite old new x put rest
  entering_next new e =
      let inside : entries_in (with_entries now x fs) x ≡ fs = in_then now x dict fs in
      subst (λ (h : Heap). IsEntering overwrite old h x put rest) (sym e) (record {
        same = then_put old x was now fs before.same ∙ sym (ap (with_entries old x) inside);
        outcome = ap (λ us. merged overwrite us rest) inside ∙ before.outcome;
        light = ap (λ us. weights_less overwrite us rest) inside ∙ light_then;
        once = before.once.1;
      })

  -- no step weighs more than the whole
  pub entering_room : weight (with_entries old x (merged overwrite (entries_in old x) put)).cells ≤ 67108864 → weight (with_entries now x fs).cells ≤ 67108864
  entering_room light =
      let whole : sum_by entry_weight (merged overwrite fs rest) ≡ sum_by entry_weight (merged overwrite (entries_in old x) put) = ap (sum_by entry_weight) before.outcome in
      let here : weight (with_entries now x fs).cells ≡ weight (with_entries old x fs).cells = ap (λ (h : Heap). weight h.cells) (then_put old x was now fs before.same) in
      omega (arith, light, whole, here, merged_weight overwrite fs rest before.once.1, light_then, weight_then old x was fs, weight_then old x was (merged overwrite (entries_in old x) put))

module _ (overwrite : Bool) (old now : Heap) (x y i : ℕ) (apart : y ≢ x) (was : is_dict (cell_at old.cells x) ≡ true) (dict : is_dict (cell_at now.cells x) ≡ true) (before : IsEntering overwrite old now x (entries_in old y) (drop i (entries_in old y))) where
  abbrev others : List (Key × Value)
  others = entries_in old y

  stays : entries_in now y ≡ others
  stays = other_stays old now x y apart before.same

  at_step : (f : Key × Value) → slice_get others i ≡ Some f → IsEntering overwrite old now x others (f ∷ drop (i + 1) others)
  at_step f at = subst (λ (rest : List (Key × Value)). IsEntering overwrite old now x others rest) (next_is others i f at) before

  pub entering_step : (new : Heap) → i < length others → ((f : Key × Value) → slice_get (entries_in now y) i ≡ Some f → new ≡ with_entries now x (with_put overwrite (entries_in now x) f)) → IsEntering overwrite old new x others (drop (i + 1) others)
  entering_step new within step =
      let f : Key × Value = next others i in
      let at : slice_get others i ≡ Some f = slice_get-get_or others i (KeyTruth false, Null) within in
      entering_next overwrite old now x was dict others (drop (i + 1) others) f (at_step f at) new (step f (ap (λ (es : List (Key × Value)). slice_get es i) stays ∙ at))

  pub room_step : weight (with_entries old x (merged overwrite (entries_in old x) others)).cells ≤ 67108864 → (f : Key × Value) → slice_get (entries_in now y) i ≡ Some f → weight (with_entries now x (with_put overwrite (entries_in now x) f)).cells ≤ 67108864
  room_step light f at = entering_room overwrite old now x was dict others (drop (i + 1) others) f (at_step f (sym (ap (λ (es : List (Key × Value)). slice_get es i) stays) ∙ at)) light

-- whether all may be put in
module _ (h : Heap) (x y : ℕ) (dict : is_dict (cell_at h.cells x) ≡ true) (overwrite : Bool) (once : HasKeysOnce (entries_in h y)) where
  abbrev es : List (Key × Value)
  es = entries_in h x

  abbrev put : List (Key × Value)
  put = entries_in h y

  abbrev all : List (Key × Value)
  all = merged overwrite es put

  pub many : 1048576 < length es + keys_more es put → merge_of h x y overwrite ≡ Err TooLong
  many more = ap (λ b. cond b (weighed (with_entries h x all) Null) (Err TooLong)) (lt-leb (length all) 1048576 (omega (arith, merged_length overwrite es put once)))

  pub few : length es + keys_more es put ≤ 1048576 → length all ≤ 1048576
  few less = omega (arith, merged_length overwrite es put once)

  all_weight : weight (with_entries h x all).cells + weights_less overwrite es put ≡ weight h.cells + weights_more overwrite es put
  all_weight = omega (arith, weight_then h x dict all, merged_weight overwrite es put once)

  pub heavy : length all ≤ 1048576 → (room : ℕ) → room + weight h.cells ≡ 67108864 → room + weights_less overwrite es put < weights_more overwrite es put → merge_of h x y overwrite ≡ Err HeapFull
  heavy few room is more =
      ap (λ b. cond b (weighed (with_entries h x all) Null) (Err TooLong)) (le-leb (length all) 1048576 few)
      ∙ ap (λ b. cond b (Ok (Null, with_entries h x all)) (Err HeapFull)) (lt-leb (weight (with_entries h x all).cells) 67108864 (omega (arith, all_weight)))

  pub light : (room : ℕ) → room + weight h.cells ≡ 67108864 → weights_more overwrite es put ≤ room + weights_less overwrite es put → weight (with_entries h x all).cells ≤ 67108864
  light room is less = omega (arith, all_weight)

  -- what fits, as it is put in
  pub fitting : length all ≤ 1048576 → weight (with_entries h x all).cells ≤ 67108864 → merge_of h x y overwrite ≡ Ok (Null, with_entries h x all)
  fitting few light =
      ap (λ b. cond b (weighed (with_entries h x all) Null) (Err TooLong)) (le-leb (length all) 1048576 few)
      ∙ ap (λ b. cond b (Ok (Null, with_entries h x all)) (Err HeapFull)) (le-leb (weight (with_entries h x all).cells) 67108864 light)

-- the lists that a call has looked at
pub record Alike (overwrite : Bool) (es fs us vs : List (Key × Value)) : Type 0 where
  pub length : length us ≡ length es
  pub keys : keys_more us vs ≡ keys_more es fs
  pub more : weights_more overwrite us vs ≡ weights_more overwrite es fs
  pub less : weights_less overwrite us vs ≡ weights_less overwrite es fs
  pub once : HasKeysOnce vs → HasKeysOnce fs

pub alike : (h : Heap) (x y : ℕ) (overwrite : Bool) (us vs : List (Key × Value)) → us ≡ entries_in h x → vs ≡ entries_in h y → Alike overwrite (entries_in h x) (entries_in h y) us vs
alike h x y overwrite us vs u v = record {
  length = ap (λ (es : List (Key × Value)). length es) u;
  keys = ap (λ es. keys_more es vs) u ∙ ap (keys_more (entries_in h x)) v;
  more = ap (λ es. weights_more overwrite es vs) u ∙ ap (weights_more overwrite (entries_in h x)) v;
  less = ap (λ es. weights_less overwrite es vs) u ∙ ap (weights_less overwrite (entries_in h x)) v;
  once = λ o. subst (λ (es : List (Key × Value)). HasKeysOnce es) v o;
}

-- a dictionary that is put into itself stays
pub fitting_own : (h : Heap) (x y : ℕ) (dict : is_dict (cell_at h.cells x) ≡ true) (overwrite : Bool) → HasKeysOnce (entries_in h y) → y ≡ x → length (merged overwrite (entries_in h x) (entries_in h y)) ≤ 1048576 → weight (with_entries h x (merged overwrite (entries_in h x) (entries_in h y))).cells ≤ 67108864 → merge_of h x y overwrite ≡ Ok (Null, h)
fitting_own h x y dict overwrite once one few light =
    fitting h x y dict overwrite once few light
    ∙ ap (λ es. Ok (Null, with_entries h x es)) (ap (λ z. merged overwrite (entries_in h z) (entries_in h y)) (sym one) ∙ merged_own overwrite (entries_in h y) once ∙ ap (entries_in h) one)
    ∙ ap (λ (g : Heap). Ok (Null, g)) (own_entries h x)
