-- The test of two keys that is derived, and the entries that an insertion leaves.
use Rattle.std.proofs.Common.{◌≡◌, ◌∙◌, ap, sym, List, [], ◌∷◌, cond, false, Some, None, refl}
use Rattle.std.specs.Map.{keys_of, lookup, remove_entry}
use Rattle.std.specs.List.{AllByRecursion, IsDistinct}
use Rattle.std.proofs.lemmas.Map.Keys.{IsDistinct-head, IsDistinct-tail}
use Rattle.indexmap.specs.IndexMap.{insert_entry}
use Rattle.variant_values.specs.declared.values.Key.{Key}
use Rattle.variant_values.specs.declared.values.Key.TheVariants.{Bool as KeyTruth, Int as KeyInt, Str as KeyStr, Object as KeyObject}
use Rattle.variant_values.specs.declared.values.Value.{Value}
use Rattle.variant_values.specs.Keys.{same_key, with_entry, without_entry, HasKeysOnce}
use Rattle.variant_values.specs.contracts.values.KeyPartialEq.TheImpl.{eq-value}

pub derived_same : (a b : Key) → eq-value.it a b ≡ same_key a b
derived_same (KeyTruth a) (KeyTruth b) = refl
derived_same (KeyTruth a) (KeyInt b) = refl
derived_same (KeyTruth a) (KeyStr b) = refl
derived_same (KeyTruth a) (KeyObject b) = refl
derived_same (KeyInt a) (KeyTruth b) = refl
derived_same (KeyInt a) (KeyInt b) = refl
derived_same (KeyInt a) (KeyStr b) = refl
derived_same (KeyInt a) (KeyObject b) = refl
derived_same (KeyStr a) (KeyTruth b) = refl
derived_same (KeyStr a) (KeyInt b) = refl
derived_same (KeyStr a) (KeyStr b) = refl
derived_same (KeyStr a) (KeyObject b) = refl
derived_same (KeyObject a) (KeyTruth b) = refl
derived_same (KeyObject a) (KeyInt b) = refl
derived_same (KeyObject a) (KeyStr b) = refl
derived_same (KeyObject a) (KeyObject b) = refl

pub derived_test : (a : Key) → eq-value.it a ≡ same_key a
derived_test a = λ i b. derived_same a b i

-- the entries after an insertion by the derived test
pub inserted : (es : List (Key × Value)) (k : Key) (v : Value) → insert_entry eq-value.it es k v ≡ with_entry es k v
inserted [] k v = refl
inserted (e ∷ es) k v =
    ap (λ b. cond b ((e.0, v) ∷ es) (e ∷ insert_entry eq-value.it es k v)) (derived_same k e.0)
    ∙ ap (λ fs. cond (same_key k e.0) ((e.0, v) ∷ es) (e ∷ fs)) (inserted es k v)

-- the entries after a removal by the derived test
pub removed : (es : List (Key × Value)) (k : Key) → remove_entry (eq-value.it k) es ≡ without_entry es k
removed [] k = refl
removed (e ∷ es) k =
    ap (λ b. cond b es (e ∷ remove_entry (eq-value.it k) es)) (derived_same k e.0)
    ∙ ap (λ fs. cond (same_key k e.0) es (e ∷ fs)) (removed es k)

-- a key that none passes is not there
apart : (es : List (Key × Value)) (k : Key) → AllByRecursion (λ q. eq-value.it k q ≡ false) (keys_of es) → lookup (same_key k) es ≡ None
apart [] k h = refl
apart (e ∷ es) k h = ap (λ b. cond b (Some e.1) (lookup (same_key k) es)) (sym (derived_same k e.0) ∙ h.0) ∙ apart es k h.1

pub keys_once : (es : List (Key × Value)) → IsDistinct eq-value.it (keys_of es) → HasKeysOnce es
keys_once [] h = tt
keys_once (e ∷ es) h = (apart es e.0 (IsDistinct-head eq-value.it e.0 (keys_of es) h), keys_once es (IsDistinct-tail eq-value.it e.0 (keys_of es) h))
