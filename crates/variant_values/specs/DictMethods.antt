-- The methods of dictionaries, after the Godot manual's page of Dictionary.
use Rattle.std.specs.Prelude.{ℕ, pos, Bool, nat_eq, if◌then◌else◌, List, [], ◌∷◌, length, map, unwrap_or, None, is_some, Result, Ok, Err}
use Rattle.std.specs.Map.{lookup}
use Rattle.variant_values.specs.declared.faults.RunFault.{RunFault}
use Rattle.variant_values.specs.declared.values.Key.{Key}
use Rattle.variant_values.specs.declared.values.Key.TheVariants.{Bool as KeyTruth, Int as KeyInt, Str as KeyStr, Object as KeyObject}
use Rattle.variant_values.specs.declared.values.Value.{Value}
use Rattle.variant_values.specs.declared.values.Value.TheVariants.{Null, Bool as Truth, Int, Str, Object}
use Rattle.variant_values.specs.Heaps.{Heap, cell_at, entries_of, entries_put, with_cell, without_entry_at}
use Rattle.variant_values.specs.Keys.{same_key, with_entry}
use Rattle.variant_values.specs.Operators.{Outcome, truth_of, number_of}
use Rattle.variant_values.specs.Changes.{Given, counted, new_array, new_dict, weighed}

abbrev pub entries_in : Heap → ℕ → List (Key × Value)
entries_in h x = entries_of (cell_at h.cells x)

-- `size` and `is_empty`
abbrev pub dict_size_of : List (Key × Value) → Outcome
dict_size_of es = number_of (pos (length es))

abbrev pub dict_emptiness_of : List (Key × Value) → Outcome
dict_emptiness_of es = truth_of (nat_eq (length es) 0)

-- `has`
abbrev pub presence_of : List (Key × Value) → Result Key RunFault → Outcome
presence_of es (Ok k) = truth_of (is_some (lookup (same_key k) es))
presence_of es (Err fault) = Err fault

-- `get`: a key that is missing gives the default
abbrev pub value_of : List (Key × Value) → Result Key RunFault → Value → Outcome
value_of es (Ok k) default = Ok (unwrap_or (lookup (same_key k) es) default)
value_of es (Err fault) default = Err fault

abbrev pub value_of_key : Key → Value
value_of_key (KeyTruth b) = Truth b
value_of_key (KeyInt n) = Int n
value_of_key (KeyStr s) = Str s
value_of_key (KeyObject s) = Object s

-- `keys` and `values`, in the order of the entries
abbrev pub keys_of : Heap → ℕ → Given
keys_of h x = new_array h (map (λ e. value_of_key e.0) (entries_in h x)) None

abbrev pub values_of : Heap → ℕ → Given
values_of h x = new_array h (map (λ e. e.1) (entries_in h x)) None

-- `erase`: whether the key was there
abbrev pub dict_erase_of : Heap → ℕ → Result Key RunFault → Given
dict_erase_of h x (Ok k) = Ok (Truth (is_some (lookup (same_key k) (entries_in h x))), without_entry_at h x k)
dict_erase_of h x (Err fault) = Err fault

abbrev pub with_entries : Heap → ℕ → List (Key × Value) → Heap
with_entries h x es = with_cell h x (entries_put es (cell_at h.cells x))

-- `clear`
abbrev pub dict_clear_of : Heap → ℕ → Given
dict_clear_of h x = Ok (Null, with_entries h x [])

-- `duplicate`, which leaves containers inside as they are
abbrev pub dict_shallow_of : Heap → ℕ → Given
dict_shallow_of h x = new_dict h (entries_in h x)

-- the entries with one more, where its key is missing
abbrev pub with_missing : List (Key × Value) → Key × Value → List (Key × Value)
with_missing es f = if is_some (lookup (same_key f.0) es) then es else with_entry es f.0 f.1

-- the entries with others put in, one after the other; a present key keeps its place, and its value where none is overwritten
abbrev pub merged : Bool → List (Key × Value) → List (Key × Value) → List (Key × Value)
merged overwrite es [] = es
merged overwrite es (f ∷ fs) = merged overwrite (if overwrite then with_entry es f.0 f.1 else with_missing es f) fs

-- `merge`
abbrev pub merge_of : Heap → ℕ → ℕ → Bool → Given
merge_of h x y overwrite =
    let es = merged overwrite (entries_in h x) (entries_in h y) in
    counted (length es) (weighed (with_entries h x es) Null)
