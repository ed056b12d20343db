-- Keys of a dictionary, and its entries as a list of pairs.
use Rattle.std.specs.Prelude.{◌≡◌, Bool, false, cond, nat_eq, List, [], ◌∷◌, None}
use mathlib.Core.Bool.{beq}
use Rattle.std.specs.Ordering.{int_eq}
use Rattle.std.specs.Map.{lookup}
use Rattle.variant_values.specs.declared.values.Key.{Key}
use Rattle.variant_values.specs.declared.values.Key.TheVariants.{Bool as KeyTruth, Int as KeyInt, Str as KeyStr, Object as KeyObject}
use Rattle.variant_values.specs.declared.values.Value.{Value}
use Rattle.variant_values.specs.Operators.{same_text}

-- when two keys are one
abbrev pub same_key : Key → Key → Bool
same_key (KeyTruth a) (KeyTruth b) = beq a b
same_key (KeyInt a) (KeyInt b) = int_eq a b
same_key (KeyStr a) (KeyStr b) = same_text a b
same_key (KeyObject a) (KeyObject b) = nat_eq a.0 b.0
same_key _ _ = false

-- the entries with a value put in: a new key goes last, and a present one keeps its place
abbrev pub with_entry : List (Key × Value) → Key → Value → List (Key × Value)
with_entry [] k v = (k, v) ∷ []
with_entry (e ∷ es) k v = cond (same_key k e.0) ((e.0, v) ∷ es) (e ∷ with_entry es k v)

-- the entries without a key
abbrev pub without_entry : List (Key × Value) → Key → List (Key × Value)
without_entry [] k = []
without_entry (e ∷ es) k = cond (same_key k e.0) es (e ∷ without_entry es k)

-- no key stands twice
abbrev pub HasKeysOnce : List (Key × Value) → Type 0
HasKeysOnce [] = Unit {0}
HasKeysOnce (e ∷ es) = (lookup (same_key e.0) es ≡ None) × HasKeysOnce es
