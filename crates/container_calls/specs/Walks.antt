-- A walk as the code takes it apart.
use Rattle.std.specs.Prelude.{◌≡◌, ℕ, zero, suc, Bool, true, false, not, Result, List, [], length, ◌<◌, ◌-◌, slice_get, IfSome, All, Option, Some, None, Ok, Err}
use Rattle.variant_values.specs.declared.cells.Cell.{Cell}
use Rattle.variant_values.specs.declared.faults.RunFault.{RunFault}
use Rattle.variant_values.specs.declared.faults.RunFault.TheVariants.{TooDeep, HeapFull}
use Rattle.variant_values.specs.declared.faults.Trouble.{Trouble}
use Rattle.variant_values.specs.declared.faults.Trouble.TheVariants.{Fault, NoMemory}
use Rattle.variant_values.specs.declared.operators.BinaryOp.{BinaryOp}
use Rattle.variant_values.specs.declared.operators.BinaryOp.TheVariants.{Add, Sub, Mul, Div, Rem, Shl, Shr, BitAnd, BitXor, BitOr, Eq, Ne, Lt, Gt, Le, Ge, Within, And, Or}
use Rattle.variant_values.specs.declared.values.Key.{Key}
use Rattle.variant_values.specs.declared.values.Value.{Value}
use Rattle.variant_values.specs.Heaps.{knows, knows_key}
use Rattle.variant_values.specs.Comparisons.{Walk, same_at, same_items, same_entries}

-- two arrays, where so many levels may be opened
abbrev pub arrays_at : List (Option Cell) → ℕ → List Value → List Value → ℕ → Walk
arrays_at cells zero vs ws room = Err TooDeep
arrays_at cells (suc levels) vs ws room = same_items (λ a b n. same_at cells levels a b n) vs ws room

abbrev pub dicts_at : List (Option Cell) → ℕ → List (Key × Value) → List (Key × Value) → ℕ → Walk
dicts_at cells zero es fs room = Err TooDeep
dicts_at cells (suc levels) es fs room = same_entries (λ a b n. same_at cells levels a b n) es fs room

-- how many items a walk may still come to, where it found no difference
abbrev pub left_of : Walk → Option ℕ
left_of (Ok left) = left
left_of (Err fault) = None

abbrev pub is_no : Result Bool RunFault → Bool
is_no (Ok b) = not b
is_no (Err fault) = false

-- the operators that no container stands under
abbrev pub is_plain_op : BinaryOp → Bool
is_plain_op Within = false
is_plain_op And = false
is_plain_op Or = false
is_plain_op Eq = false
is_plain_op Ne = false
is_plain_op op = true

-- the last key of entries, or that there is none
abbrev pub IsLastKey : Option Key → List (Key × Value) → Type 0
IsLastKey None es = es ≡ []
IsLastKey (Some k) es = IfSome (slice_get es (length es - 1)) (λ e. e.0 ≡ k) × (0 < length es)
