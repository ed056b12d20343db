-- Entries whose keys stand once: how many there are.
use Rattle.std.proofs.Common.{◌≡◌, ◌∙◌, ap, sym, refl, suc, ◌+◌, ◌≤◌, Bool, true, false, cond, List, [], ◌∷◌, length, Option, Some, None, is_some, arith}
use Rattle.std.specs.Map.{lookup}
use Rattle.std.proofs.lemmas.Bool.{false≢true}
use Rattle.variant_values.specs.declared.values.Key.{Key}
use Rattle.variant_values.specs.declared.values.Value.{Value}
use Rattle.variant_values.specs.declared.values.Value.TheVariants.{Null}
use Rattle.variant_values.specs.Keys.{same_key, without_entry, HasKeysOnce}
use Rattle.variant_values.proofs.SameKeys.{same_is, same_own}

abbrev pub has : Key → List (Key × Value) → Bool
has k es = is_some (lookup (same_key k) es)

pub own_found : (e : Key × Value) (es : List (Key × Value)) → lookup (same_key e.0) (e ∷ es) ≡ Some e.1
own_found e es = ap (λ b. cond b (Some e.1) (lookup (same_key e.0) es)) (same_own e.0)

-- a key that stands behind an entry is not the entry's
pub behind_apart : (k : Key) (e : Key × Value) (es : List (Key × Value)) → lookup (same_key e.0) es ≡ None → has k es ≡ true → same_key k e.0 ≡ false
behind_apart k e es none there = by (same_key k e.0) refl
  where
    by : (b : Bool) → same_key k e.0 ≡ b → b ≡ false
    by true one = absurd (false≢true (sym (ap is_some (ap (λ g. lookup (same_key g) es) (same_is k e.0 one) ∙ none)) ∙ there))
    by false one = refl

pub behind_found : (k : Key) (e : Key × Value) (es : List (Key × Value)) → lookup (same_key e.0) es ≡ None → has k es ≡ true → lookup (same_key k) (e ∷ es) ≡ lookup (same_key k) es
behind_found k e es none there = ap (λ b. cond b (Some e.1) (lookup (same_key k) es)) (behind_apart k e es none there)

-- one entry is taken out
taken_length : (k : Key) (es : List (Key × Value)) → has k es ≡ true → length (without_entry es k) + 1 ≡ length es
taken_length k [] there = absurd (false≢true there)
taken_length k (e ∷ es) there = by (same_key k e.0) there (taken_length k es)
  where
    by : (b : Bool) → is_some (cond b (Some e.1) (lookup (same_key k) es)) ≡ true → (has k es ≡ true → length (without_entry es k) + 1 ≡ length es) → length (cond b es (e ∷ without_entry es k)) + 1 ≡ suc (length es)
    by true h later = omega arith
    by false h later = omega (arith, later h)

taken_other : (k g : Key) (es : List (Key × Value)) → same_key g k ≡ false → lookup (same_key g) (without_entry es k) ≡ lookup (same_key g) es
taken_other k g [] apart = refl
taken_other k g (e ∷ es) apart = by (same_key k e.0) refl (taken_other k g es apart)
  where
    by : (b : Bool) → same_key k e.0 ≡ b → lookup (same_key g) (without_entry es k) ≡ lookup (same_key g) es → lookup (same_key g) (cond b es (e ∷ without_entry es k)) ≡ cond (same_key g e.0) (Some e.1) (lookup (same_key g) es)
    by true one later = sym (ap (λ b. cond b (Some e.1) (lookup (same_key g) es)) (ap (same_key g) (sym (same_is k e.0 one)) ∙ apart))
    by false one later = ap (λ o. cond (same_key g e.0) (Some e.1) o) later

-- entries whose keys stand once and are all keys of others are no more than those
pub no_more : (es fs : List (Key × Value)) → HasKeysOnce es → ((k : Key) → has k es ≡ true → has k fs ≡ true) → length es ≤ length fs
no_more [] fs once all = omega arith
no_more (e ∷ es) fs once all =
    let there : has e.0 fs ≡ true = all e.0 (ap is_some (own_found e es)) in
    let fewer = no_more es (without_entry fs e.0) once.1 (λ k h.
    ap is_some (taken_other e.0 k fs (behind_apart k e es once.0 h)) ∙ all k (ap is_some (behind_found k e es once.0 h) ∙ h)) in
    omega (arith, fewer, taken_length e.0 fs there)

some_or_none : (o : Option Value) (P : Type 0) → (is_some o ≡ true → P) → (o ≡ None → P) → P
some_or_none None P some none = none refl
some_or_none (Some v) P some none = some refl

-- as many entries, with all keys of the ones among those of the others: the keys are the same
pub all_back : (es fs : List (Key × Value)) → HasKeysOnce es → length es ≡ length fs → ((k : Key) → has k es ≡ true → has k fs ≡ true) → (k : Key) → has k fs ≡ true → has k es ≡ true
all_back es fs once size all k there = some_or_none (lookup (same_key k) es) (has k es ≡ true) (λ h. h) (λ none.
    let more = no_more ((k, Null) ∷ es) fs (none, once) (λ g h. by (same_key g k) g refl h) in
    absurd (omega (arith, more, size)))
  where
    by : (b : Bool) (g : Key) → same_key g k ≡ b → is_some (cond b (Some Null) (lookup (same_key g) es)) ≡ true → has g fs ≡ true
    by true g one h = ap (λ q. has q fs) (same_is g k one) ∙ there
    by false g one h = all g h

-- keys on both sides
pub both_ways : (a b : Bool) → (a ≡ true → b ≡ true) → (b ≡ true → a ≡ true) → a ≡ b
both_ways true b f g = sym (f refl)
both_ways false true f g = g refl
both_ways false false f g = refl
