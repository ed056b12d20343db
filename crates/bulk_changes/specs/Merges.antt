-- What putting entries into a dictionary changes.
use Rattle.std.specs.Prelude.{◌≡◌, ℕ, Bool, true, not, if◌then◌else◌, List, is_some, Option, Some, None}
use Rattle.std.specs.List.{filter, sum_by}
use Rattle.std.specs.Map.{lookup}
use Rattle.variant_values.specs.declared.values.Key.{Key}
use Rattle.variant_values.specs.declared.values.Value.{Value}
use Rattle.variant_values.specs.Keys.{same_key, with_entry}
use Rattle.variant_values.specs.Heaps.{Heap}
use Rattle.variant_values.specs.Places.{entry_weight, text_weight}
use Rattle.variant_values.specs.DictMethods.{entries_in, merged, with_entries, with_missing}

-- whether the key of an entry is missing
abbrev pub lacks : List (Key × Value) → Key × Value → Bool
lacks es f = not (is_some (lookup (same_key f.0) es))

-- the entries whose keys are missing
abbrev pub lacking : List (Key × Value) → List (Key × Value) → List (Key × Value)
lacking es fs = filter (lacks es) fs

-- the entries with one more, put in as by `merge`
abbrev pub with_put : Bool → List (Key × Value) → Key × Value → List (Key × Value)
with_put overwrite es f = if overwrite then with_entry es f.0 f.1 else with_missing es f

-- what one entry adds to the number of entries, by the value before
abbrev pub key_more : Option Value → ℕ
key_more None = 1
key_more (Some v) = 0

-- what it adds to the weight
abbrev pub weight_more : Bool → Option Value → Key × Value → ℕ
weight_more overwrite None f = entry_weight f
weight_more overwrite (Some v) f = if overwrite then text_weight f.1 else 0

-- what it takes from the weight
abbrev pub weight_less : Bool → Option Value → ℕ
weight_less overwrite None = 0
weight_less overwrite (Some v) = if overwrite then text_weight v else 0

-- the same of all, where no key stands twice
abbrev pub keys_more : List (Key × Value) → List (Key × Value) → ℕ
keys_more es fs = sum_by (λ f. key_more (lookup (same_key f.0) es)) fs

abbrev pub weights_more : Bool → List (Key × Value) → List (Key × Value) → ℕ
weights_more overwrite es fs = sum_by (λ f. weight_more overwrite (lookup (same_key f.0) es) f) fs

abbrev pub weights_less : Bool → List (Key × Value) → List (Key × Value) → ℕ
weights_less overwrite es fs = sum_by (λ f. weight_less overwrite (lookup (same_key f.0) es)) fs

-- Of the keys that are put in, those before some place have light values, and nothing has changed that is not put in.
pub record HasNulls (old new : Heap) (x : ℕ) (put done : List (Key × Value)) : Type 0 where
  pub same : new ≡ with_entries old x (entries_in new x)
  pub outcome : merged true (entries_in new x) put ≡ merged true (entries_in old x) put
  pub light : weights_less true (entries_in new x) done ≡ 0
