-- Reading and writing by an index: an array and a text by place, a dictionary by key.
use Rattle.std.specs.Prelude.{ℕ, ◌-◌, ℤ, pos, nat_lt, nat_le, if◌then◌else◌, List, [], ◌∷◌, length, Option, Some, None, Result, Ok, Err, slice_get, option_map}
use Rattle.std.specs.Int.RustNames.{int_lt, unsigned_abs}
use Rattle.std.specs.Map.{lookup}
use Rattle.std.specs.Str.{chars}
use Rattle.std.specs.Char.{encode_utf8}
use Rattle.variant_values.specs.declared.cells.Cell.{Cell}
use Rattle.variant_values.specs.declared.faults.RunFault.{RunFault}
use Rattle.variant_values.specs.declared.faults.RunFault.TheVariants.{BadOperands, BadIndex, ElementType, NoKey}
use Rattle.variant_values.specs.declared.values.Key.{Key}
use Rattle.variant_values.specs.declared.values.Value.{Value}
use Rattle.variant_values.specs.declared.values.Value.TheVariants.{Int, Str, Array, Dict}
use Rattle.variant_values.specs.Heaps.{Heap, cell_at, items_of, entries_of, with_splice, with_entry_at}
use Rattle.variant_values.specs.Keys.{same_key, with_entry}
use Rattle.variant_values.specs.Operators.{Outcome, key_of}
use Rattle.variant_values.specs.Changes.{Done, weighed, counted}
use Rattle.variant_values.specs.ElementTypes.{element_of, is_taken}

-- the place of an index among n, where a negative one counts from the end
abbrev pub spot : ℤ → ℕ → Option ℕ
spot i n = if int_lt i (pos 0) then (if nat_le (unsigned_abs i) n then Some (n - unsigned_abs i) else None) else (if nat_lt (unsigned_abs i) n then Some (unsigned_abs i) else None)

abbrev pub or_fault : RunFault → Option Value → Outcome
or_fault fault None = Err fault
or_fault fault (Some v) = Ok v

abbrev pub item_at : List Value → Option ℕ → Outcome
item_at vs None = Err BadIndex
item_at vs (Some i) = or_fault BadIndex (slice_get vs i)

-- the text of one character
abbrev pub character_at : List ℕ → Option ℕ → Outcome
character_at cs None = Err BadIndex
character_at cs (Some i) = or_fault BadIndex (option_map (λ c. Str (encode_utf8 c)) (slice_get cs i))

abbrev pub entry_at : List (Key × Value) → Result Key RunFault → Outcome
entry_at es (Err fault) = Err fault
entry_at es (Ok k) = or_fault NoKey (lookup (same_key k) es)

-- `v[w]`
abbrev pub index_of : List (Option Cell) → Value → Value → Outcome
index_of cells (Array s) (Int i) = item_at (items_of (cell_at cells s.0)) (spot i (length (items_of (cell_at cells s.0))))
index_of cells (Str s) (Int i) = character_at (chars s) (spot i (length (chars s)))
index_of cells (Dict s) w = entry_at (entries_of (cell_at cells s.0)) (key_of w)
index_of cells v w = Err BadOperands

abbrev pub item_put : Heap → ℕ → Option ℕ → Value → Done
item_put h x None v = Err BadIndex
item_put h x (Some i) v = if is_taken h.cells (element_of (cell_at h.cells x)) v then weighed (with_splice h x i 1 (v ∷ [])) tt else Err ElementType

-- an entry, where the dictionary has not too many then
abbrev pub entry_put_at : Heap → ℕ → Key → Value → Done
entry_put_at h x k v = counted (length (with_entry (entries_of (cell_at h.cells x)) k v)) (weighed (with_entry_at h x k v) tt)

abbrev pub entry_put : Heap → ℕ → Result Key RunFault → Value → Done
entry_put h x (Err fault) v = Err fault
entry_put h x (Ok k) v = entry_put_at h x k v

-- `v[w] = to`
abbrev pub index_put : Heap → Value → Value → Value → Done
index_put h (Array s) (Int i) to = item_put h s.0 (spot i (length (items_of (cell_at h.cells s.0)))) to
index_put h (Dict s) w to = entry_put h s.0 (key_of w) to
index_put h v w to = Err BadOperands
