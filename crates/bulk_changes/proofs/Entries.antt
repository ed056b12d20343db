-- Entries, as they are put into others.
use Rattle.std.proofs.Common.{◌≡◌, ◌∙◌, ap, sym, refl, ℕ, zero, suc, ◌+◌, ◌≤◌, Bool, true, false, cond, List, [], ◌∷◌, length, Option, Some, None, is_some, arith}
use Rattle.std.specs.Prelude.{slice_get, nat_eq, if◌then◌else◌}
use Rattle.std.specs.List.{sum_by}
use Rattle.std.specs.Map.{lookup}
use Rattle.std.specs.Cmp.{bool_eq_equiv}
use Rattle.std.specs.Cmp.Lexicographic.{pointwise}
use mathlib.Core.Bool.{beq}
use Rattle.std.proofs.lemmas.Bool.{false≢true, and_parts, eqb-true}
use Rattle.std.proofs.lemmas.Bool.Decides.{Decides-int_eq}
use Rattle.std.proofs.lemmas.Cmp.{nat_list_eq_equiv, nat_eq_equiv, int_eq_equiv}
use Rattle.std.proofs.lemmas.List.Sums.{sum_by-cons}
use Rattle.variant_values.specs.declared.values.Key.{Key}
use Rattle.variant_values.specs.declared.values.Key.TheVariants.{Bool as KeyTruth, Int as KeyInt, Str as KeyStr, Object as KeyObject}
use Rattle.variant_values.specs.declared.values.Value.{Value}
use Rattle.variant_values.specs.declared.values.Value.TheVariants.{Null}
use Rattle.variant_values.specs.Keys.{same_key, with_entry, HasKeysOnce}
use Rattle.variant_values.specs.Places.{entry_weight}
use Rattle.variant_values.specs.DictMethods.{merged, with_missing}
use Rattle.variant_values.proofs.SameKeys.{same_is, same_own}
use Rattle.call_support.proofs.Once.{apart_too}
use Rattle.bulk_changes.specs.Merges.{key_more, keys_more, weight_less, weight_more, weights_less, weights_more, with_put}

-- what is apart from one of two equal keys is apart from the other
other_apart : (g k e : Key) → same_key g k ≡ false → same_key k e ≡ true → same_key g e ≡ false
other_apart g k e apart one = ap (same_key g) (sym (same_is k e one)) ∙ apart

-- what a key gives that is apart from the one put in
pub apart_lookup : (es : List (Key × Value)) (k g : Key) (v : Value) → same_key g k ≡ false → lookup (same_key g) (with_entry es k v) ≡ lookup (same_key g) es
apart_lookup [] k g v apart = ap (λ b. cond b (Some v) None) apart
apart_lookup (e ∷ es) k g v apart = by (same_key k e.0) refl (apart_lookup es k g v apart)
  where
    by : (b : Bool) → same_key k e.0 ≡ b → lookup (same_key g) (with_entry es k v) ≡ lookup (same_key g) es → lookup (same_key g) (cond b ((e.0, v) ∷ es) (e ∷ with_entry es k v)) ≡ lookup (same_key g) (e ∷ es)
    by true one later =
        let test : same_key g e.0 ≡ false = other_apart g k e.0 apart one in
        ap (λ b. cond b (Some v) (lookup (same_key g) es)) test ∙ sym (ap (λ b. cond b (Some e.1) (lookup (same_key g) es)) test)
    by false other later = ap (λ o. cond (same_key g e.0) (Some e.1) o) later

-- what the key gives that was put in
pub own_lookup : (es : List (Key × Value)) (k : Key) (v : Value) → lookup (same_key k) (with_entry es k v) ≡ Some v
own_lookup [] k v = ap (λ b. cond b (Some v) None) (same_own k)
own_lookup (e ∷ es) k v = by (same_key k e.0) refl (own_lookup es k v)
  where
    by : (b : Bool) → same_key k e.0 ≡ b → lookup (same_key k) (with_entry es k v) ≡ Some v → lookup (same_key k) (cond b ((e.0, v) ∷ es) (e ∷ with_entry es k v)) ≡ Some v
    by true one later = ap (λ b. cond b (Some v) (lookup (same_key k) es)) one
    by false other later = ap (λ b. cond b (Some e.1) (lookup (same_key k) (with_entry es k v))) other ∙ later

-- sums of what is looked up, where a key is put in that none of them asks for
pub sums_alike : (f : Option Value → Key × Value → ℕ) (es fs : List (Key × Value)) (k : Key) (v : Value) → lookup (same_key k) fs ≡ None → sum_by (λ g. f (lookup (same_key g.0) (with_entry es k v)) g) fs ≡ sum_by (λ g. f (lookup (same_key g.0) es) g) fs
sums_alike f es [] k v none = refl
sums_alike f es (g ∷ fs) k v none = by (same_key k g.0) refl none (sums_alike f es fs k v)
  where
    by : (b : Bool) → same_key k g.0 ≡ b → cond b (Some g.1) (lookup (same_key k) fs) ≡ None → (lookup (same_key k) fs ≡ None → sum_by (λ g. f (lookup (same_key g.0) (with_entry es k v)) g) fs ≡ sum_by (λ g. f (lookup (same_key g.0) es) g) fs) → sum_by (λ g. f (lookup (same_key g.0) (with_entry es k v)) g) (g ∷ fs) ≡ sum_by (λ g. f (lookup (same_key g.0) es) g) (g ∷ fs)
    by true one h later = cc
    by false other h later =
        let one : f (lookup (same_key g.0) (with_entry es k v)) g ≡ f (lookup (same_key g.0) es) g = ap (λ o. f o g) (apart_lookup es k g.0 v (apart_too k g.0 other)) in
        sum_by-cons (λ g. f (lookup (same_key g.0) (with_entry es k v)) g) g fs
        ∙ ap (λ n. n + sum_by (λ g. f (lookup (same_key g.0) (with_entry es k v)) g) fs) one
        ∙ ap (λ n. f (lookup (same_key g.0) es) g + n) (later h)
        ∙ sym (sum_by-cons (λ g. f (lookup (same_key g.0) es) g) g fs)

put_length : (es : List (Key × Value)) (k : Key) (v : Value) → length (with_entry es k v) ≡ length es + key_more (lookup (same_key k) es)
put_length [] k v = omega arith
put_length (e ∷ es) k v = by (same_key k e.0) (put_length es k v)
  where
    by : (b : Bool) → length (with_entry es k v) ≡ length es + key_more (lookup (same_key k) es) → length (cond b ((e.0, v) ∷ es) (e ∷ with_entry es k v)) ≡ length (e ∷ es) + key_more (cond b (Some e.1) (lookup (same_key k) es))
    by true later = omega arith
    by false later = omega (arith, later)

pub put_weight : (es : List (Key × Value)) (k : Key) (v : Value) → sum_by entry_weight (with_entry es k v) + weight_less true (lookup (same_key k) es) ≡ sum_by entry_weight es + weight_more true (lookup (same_key k) es) (k, v)
put_weight [] k v = omega (arith, sum_by-cons entry_weight (k, v) [])
put_weight (e ∷ es) k v = by (same_key k e.0) (put_weight es k v)
  where
    by : (b : Bool) → sum_by entry_weight (with_entry es k v) + weight_less true (lookup (same_key k) es) ≡ sum_by entry_weight es + weight_more true (lookup (same_key k) es) (k, v) → sum_by entry_weight (cond b ((e.0, v) ∷ es) (e ∷ with_entry es k v)) + weight_less true (cond b (Some e.1) (lookup (same_key k) es)) ≡ sum_by entry_weight (e ∷ es) + weight_more true (cond b (Some e.1) (lookup (same_key k) es)) (k, v)
    by true later = omega (arith, sum_by-cons entry_weight (e.0, v) es, sum_by-cons entry_weight e es)
    by false later = omega (arith, sum_by-cons entry_weight e (with_entry es k v), sum_by-cons entry_weight e es, later)

-- where one more is put in that overwrites none
missing : (P : Option Value → List (Key × Value) → Type 0) (es : List (Key × Value)) (f : Key × Value) → ((v : Value) → P (Some v) es) → (lookup (same_key f.0) es ≡ None → P None (with_entry es f.0 f.1)) → P (lookup (same_key f.0) es) (with_missing es f)
missing P es f there new = by (lookup (same_key f.0) es) refl
  where
    by : (o : Option Value) → lookup (same_key f.0) es ≡ o → P o (if is_some o then es else with_entry es f.0 f.1)
    by None none = new none
    by (Some v) found = there v

one_length : (overwrite : Bool) (es : List (Key × Value)) (f : Key × Value) → length (with_put overwrite es f) ≡ length es + key_more (lookup (same_key f.0) es)
one_length true es f = put_length es f.0 f.1
one_length false es f = missing (λ o us. length us ≡ length es + key_more o) es f (λ v. omega arith) (λ none. put_length es f.0 f.1 ∙ ap (λ o. length es + key_more o) none)

one_weight : (overwrite : Bool) (es : List (Key × Value)) (f : Key × Value) → sum_by entry_weight (with_put overwrite es f) + weight_less overwrite (lookup (same_key f.0) es) ≡ sum_by entry_weight es + weight_more overwrite (lookup (same_key f.0) es) f
one_weight true es f = put_weight es f.0 f.1
one_weight false es f = missing (λ o us. sum_by entry_weight us + weight_less false o ≡ sum_by entry_weight es + weight_more false o f) es f (λ v. refl) (λ none. omega (arith, put_weight es f.0 f.1, ap (weight_less true) none, ap (λ o. weight_more true o f) none))

one_alike : (overwrite : Bool) (k : Option Value → Key × Value → ℕ) (es fs : List (Key × Value)) (f : Key × Value) → lookup (same_key f.0) fs ≡ None → sum_by (λ g. k (lookup (same_key g.0) (with_put overwrite es f)) g) fs ≡ sum_by (λ g. k (lookup (same_key g.0) es) g) fs
one_alike true k es fs f none = sums_alike k es fs f.0 f.1 none
one_alike false k es fs f none = missing (λ o us. sum_by (λ g. k (lookup (same_key g.0) us) g) fs ≡ sum_by (λ g. k (lookup (same_key g.0) es) g) fs) es f (λ v. refl) (λ lacks. sums_alike k es fs f.0 f.1 none)

pub less_alike : (overwrite : Bool) (es fs : List (Key × Value)) (f : Key × Value) → lookup (same_key f.0) fs ≡ None → weights_less overwrite (with_put overwrite es f) fs ≡ weights_less overwrite es fs
less_alike overwrite es fs f none = one_alike overwrite (λ o g. weight_less overwrite o) es fs f none

pub less_next : (overwrite : Bool) (es fs : List (Key × Value)) (f : Key × Value) → weights_less overwrite es (f ∷ fs) ≡ weight_less overwrite (lookup (same_key f.0) es) + weights_less overwrite es fs
less_next overwrite es fs f = sum_by-cons (λ g. weight_less overwrite (lookup (same_key g.0) es)) f fs

-- where none is overwritten nothing gets lighter
pub none_less : (es fs : List (Key × Value)) → weights_less false es fs ≡ 0
none_less es [] = refl
none_less es (f ∷ fs) = less_next false es fs f ∙ by (lookup (same_key f.0) es) (none_less es fs)
  where
    by : (o : Option Value) → weights_less false es fs ≡ 0 → weight_less false o + weights_less false es fs ≡ 0
    by None later = omega (arith, later)
    by (Some v) later = omega (arith, later)

pub merged_length : (overwrite : Bool) (es fs : List (Key × Value)) → HasKeysOnce fs → length (merged overwrite es fs) ≡ length es + keys_more es fs
merged_length overwrite es [] once = omega arith
merged_length overwrite es (f ∷ fs) once =
    omega (arith, merged_length overwrite (with_put overwrite es f) fs once.1, one_length overwrite es f, one_alike overwrite (λ o g. key_more o) es fs f once.0, sum_by-cons (λ g. key_more (lookup (same_key g.0) es)) f fs)

pub merged_weight : (overwrite : Bool) (es fs : List (Key × Value)) → HasKeysOnce fs → sum_by entry_weight (merged overwrite es fs) + weights_less overwrite es fs ≡ sum_by entry_weight es + weights_more overwrite es fs
merged_weight overwrite es [] once = omega arith
merged_weight overwrite es (f ∷ fs) once =
    omega (arith, merged_weight overwrite (with_put overwrite es f) fs once.1, one_weight overwrite es f, less_alike overwrite es fs f once.0, less_next overwrite es fs f, one_alike overwrite (weight_more overwrite) es fs f once.0, sum_by-cons (λ g. weight_more overwrite (lookup (same_key g.0) es) g) f fs)

-- putting a key in anew
again : (es : List (Key × Value)) (k : Key) (v w : Value) → with_entry (with_entry es k v) k w ≡ with_entry es k w
again [] k v w = ap (λ b. cond b ((k, w) ∷ []) ((k, v) ∷ (k, w) ∷ [])) (same_own k)
again (e ∷ es) k v w = by (same_key k e.0) refl (again es k v w)
  where
    by : (b : Bool) → same_key k e.0 ≡ b → with_entry (with_entry es k v) k w ≡ with_entry es k w → with_entry (cond b ((e.0, v) ∷ es) (e ∷ with_entry es k v)) k w ≡ cond b ((e.0, w) ∷ es) (e ∷ with_entry es k w)
    by true one later = ap (λ b. cond b ((e.0, w) ∷ es) ((e.0, v) ∷ with_entry es k w)) one
    by false other later = ap (λ b. cond b ((e.0, w) ∷ with_entry es k v) (e ∷ with_entry (with_entry es k v) k w)) other ∙ ap (λ us. e ∷ us) later

-- a key that is there and another are put in, in either order
swapped : (es : List (Key × Value)) (k g : Key) (v w : Value) → same_key k g ≡ false → is_some (lookup (same_key k) es) ≡ true → with_entry (with_entry es k v) g w ≡ with_entry (with_entry es g w) k v
swapped [] k g v w apart there = absurd (false≢true there)
swapped (e ∷ es) k g v w apart there = by (same_key k e.0) (same_key g e.0) refl refl there (swapped es k g v w apart)
  where
    by : (a b : Bool) → same_key k e.0 ≡ a → same_key g e.0 ≡ b → is_some (cond a (Some e.1) (lookup (same_key k) es)) ≡ true → (is_some (lookup (same_key k) es) ≡ true → with_entry (with_entry es k v) g w ≡ with_entry (with_entry es g w) k v) → with_entry (cond a ((e.0, v) ∷ es) (e ∷ with_entry es k v)) g w ≡ with_entry (cond b ((e.0, w) ∷ es) (e ∷ with_entry es g w)) k v
    by true true p q h later = absurd (false≢true (sym (other_apart k g e.0 apart q) ∙ p))
    by true false p q h later =
        ap (λ b. cond b ((e.0, w) ∷ es) ((e.0, v) ∷ with_entry es g w)) q
        ∙ sym (ap (λ b. cond b ((e.0, v) ∷ with_entry es g w) (e ∷ with_entry (with_entry es g w) k v)) p)
    by false true p q h later =
        ap (λ b. cond b ((e.0, w) ∷ with_entry es k v) (e ∷ with_entry (with_entry es k v) g w)) q
        ∙ sym (ap (λ b. cond b ((e.0, v) ∷ es) ((e.0, w) ∷ with_entry es k v)) p)
    by false false p q h later =
        ap (λ b. cond b ((e.0, w) ∷ with_entry es k v) (e ∷ with_entry (with_entry es k v) g w)) q
        ∙ ap (λ us. e ∷ us) (later h)
        ∙ sym (ap (λ b. cond b ((e.0, v) ∷ with_entry es g w) (e ∷ with_entry (with_entry es g w) k v)) p)

-- the value of a key that is there does not matter where the key is put in
pub overwritten : (es fs : List (Key × Value)) (k : Key) (v : Value) → is_some (lookup (same_key k) fs) ≡ true → is_some (lookup (same_key k) es) ≡ true → merged true (with_entry es k v) fs ≡ merged true es fs
overwritten es [] k v put there = absurd (false≢true put)
overwritten es (f ∷ fs) k v put there = by (same_key k f.0) refl put (overwritten (with_entry es f.0 f.1) fs k v)
  where
    by : (b : Bool) → same_key k f.0 ≡ b → is_some (cond b (Some f.1) (lookup (same_key k) fs)) ≡ true → (is_some (lookup (same_key k) fs) ≡ true → is_some (lookup (same_key k) (with_entry es f.0 f.1)) ≡ true → merged true (with_entry (with_entry es f.0 f.1) k v) fs ≡ merged true (with_entry es f.0 f.1) fs) → merged true (with_entry (with_entry es k v) f.0 f.1) fs ≡ merged true (with_entry es f.0 f.1) fs
    by true one h later =
        ap (λ q. merged true (with_entry (with_entry es q v) f.0 f.1) fs) (same_is k f.0 one)
        ∙ ap (λ us. merged true us fs) (again es f.0 v f.1)
    by false other h later =
        ap (λ us. merged true us fs) (swapped es k f.0 v f.1 other there)
        ∙ later h (ap is_some (apart_lookup es f.0 k f.1 other) ∙ there)

-- an entry's key is there
pub found_at : (fs : List (Key × Value)) (i : ℕ) (f : Key × Value) → slice_get fs i ≡ Some f → is_some (lookup (same_key f.0) fs) ≡ true
found_at [] i f at = cc
found_at (g ∷ fs) zero f at =
    let one : g ≡ f = cc in
    ap (λ (e : Key × Value). is_some (cond (same_key f.0 e.0) (Some g.1) (lookup (same_key f.0) fs))) one ∙ ap (λ b. is_some (cond b (Some g.1) (lookup (same_key f.0) fs))) (same_own f.0)
found_at (g ∷ fs) (suc i) f at = by (same_key f.0 g.0) (found_at fs i f at)
  where
    by : (b : Bool) → is_some (lookup (same_key f.0) fs) ≡ true → is_some (cond b (Some g.1) (lookup (same_key f.0) fs)) ≡ true
    by true later = refl
    by false later = later

-- null is the lightest value
pub null_less : (es : List (Key × Value)) (k g : Key) → weight_less true (lookup (same_key g) (with_entry es k Null)) ≤ weight_less true (lookup (same_key g) es)
null_less es k g = by (same_key g k) refl
  where
    by : (b : Bool) → same_key g k ≡ b → weight_less true (lookup (same_key g) (with_entry es k Null)) ≤ weight_less true (lookup (same_key g) es)
    by true one = omega (arith, ap (λ q. weight_less true (lookup (same_key q) (with_entry es k Null))) (same_is g k one) ∙ ap (weight_less true) (own_lookup es k Null))
    by false other = omega (arith, ap (weight_less true) (apart_lookup es k g Null other))

-- each of some entries is there, with its value
abbrev HasAll : List (Key × Value) → List (Key × Value) → Type 0
HasAll es [] = Unit {0}
HasAll es (f ∷ fs) = (lookup (same_key f.0) es ≡ Some f.1) × HasAll es fs

-- one more stands before them
has_more : (e : Key × Value) (es fs : List (Key × Value)) → lookup (same_key e.0) fs ≡ None → HasAll es fs → HasAll (e ∷ es) fs
has_more e es [] none has = tt
has_more e es (f ∷ fs) none has = by (same_key e.0 f.0) refl none (λ n. has_more e es fs n has.1)
  where
    by : (b : Bool) → same_key e.0 f.0 ≡ b → cond b (Some f.1) (lookup (same_key e.0) fs) ≡ None → (lookup (same_key e.0) fs ≡ None → HasAll (e ∷ es) fs) → HasAll (e ∷ es) (f ∷ fs)
    by true one h later = cc
    by false other h later = (ap (λ b. cond b (Some e.1) (lookup (same_key f.0) es)) (apart_too e.0 f.0 other) ∙ has.0, later h)

has_own : (es : List (Key × Value)) → HasKeysOnce es → HasAll es es
has_own [] once = tt
has_own (e ∷ es) once = (ap (λ b. cond b (Some e.1) (lookup (same_key e.0) es)) (same_own e.0), has_more e es es once.0 (has_own es once.1))

put_there : (es : List (Key × Value)) (f : Key × Value) → lookup (same_key f.0) es ≡ Some f.1 → with_entry es f.0 f.1 ≡ es
put_there [] f is = cc
put_there (e ∷ es) f is = by (same_key f.0 e.0) is (put_there es f)
  where
    by : (b : Bool) → cond b (Some e.1) (lookup (same_key f.0) es) ≡ Some f.1 → (lookup (same_key f.0) es ≡ Some f.1 → with_entry es f.0 f.1 ≡ es) → cond b ((e.0, f.1) ∷ es) (e ∷ with_entry es f.0 f.1) ≡ e ∷ es
    by true h later = let same : e.1 ≡ f.1 = cc in ap (λ v. (e.0, v) ∷ es) (sym same)
    by false h later = ap (λ us. e ∷ us) (later h)

one_there : (overwrite : Bool) (es : List (Key × Value)) (f : Key × Value) → lookup (same_key f.0) es ≡ Some f.1 → with_put overwrite es f ≡ es
one_there true es f is = put_there es f is
one_there false es f is = ap (λ o. if is_some o then es else with_entry es f.0 f.1) is

all_there : (overwrite : Bool) (es fs : List (Key × Value)) → HasAll es fs → merged overwrite es fs ≡ es
all_there overwrite es [] has = refl
all_there overwrite es (f ∷ fs) has = ap (λ us. merged overwrite us fs) (one_there overwrite es f has.0) ∙ all_there overwrite es fs has.1

-- entries put into themselves change nothing
pub merged_own : (overwrite : Bool) (es : List (Key × Value)) → HasKeysOnce es → merged overwrite es es ≡ es
merged_own overwrite es once = all_there overwrite es es (has_own es once)
