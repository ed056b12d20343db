-- The operators on all values: those on containers, after the Godot manual's "GDScript reference", "Operators".
use Rattle.std.specs.Prelude.{ℕ, Bool, true, false, not, ◌||◌, ◌&&◌, nat_eq, List, [], ◌∷◌, ◌++◌, length, Option, is_some, Result, Ok, Err}
use Rattle.std.specs.Map.{lookup}
use Rattle.variant_values.specs.declared.cells.Cell.{Cell}
use Rattle.variant_values.specs.declared.faults.RunFault.{RunFault}
use Rattle.variant_values.specs.declared.faults.RunFault.TheVariants.{BadOperands}
use Rattle.variant_values.specs.declared.faults.Trouble.{Trouble}
use Rattle.variant_values.specs.declared.operators.BinaryOp.{BinaryOp}
use Rattle.variant_values.specs.declared.operators.BinaryOp.TheVariants.{Add, Rem, Eq, Ne, Within, And, Or}
use Rattle.variant_values.specs.declared.values.Key.{Key}
use Rattle.variant_values.specs.declared.values.Value.{Value}
use Rattle.variant_values.specs.declared.values.Value.TheVariants.{Str, Array, Dict}
use Rattle.variant_values.specs.Heaps.{Heap, cell_at, items_of, entries_of}
use Rattle.variant_values.specs.Keys.{same_key}
use Rattle.variant_values.specs.Operators.{Outcome, binary_of, key_of, truth_of}
use Rattle.variant_values.specs.Changes.{Given, counted, looked, new_array}
use Rattle.variant_values.specs.Comparisons.{equality, first_equal, same_value}
use Rattle.variant_values.specs.ElementTypes.{common, element_of}
use Rattle.variant_values.specs.Formats.{format_value}
use Rattle.variant_values.specs.StringMethods.{string_result}
use Rattle.variant_values.specs.ValueTexts.{Names}

abbrev pub begins : List ℕ → List ℕ → Bool
begins [] bs = true
begins (c ∷ cs) [] = false
begins (c ∷ cs) (b ∷ bs) = nat_eq c b && begins cs bs

-- whether one text stands in another
abbrev pub is_part : List ℕ → List ℕ → Bool
is_part part [] = begins part []
is_part part (b ∷ bs) = begins part (b ∷ bs) || is_part part bs

abbrev pub is_found : Result (Option ℕ) RunFault → Outcome
is_found (Ok found) = truth_of (is_some found)
is_found (Err fault) = Err fault

-- a value that can be no key is not looked for
abbrev pub has_key : List (Key × Value) → Result Key RunFault → Outcome
has_key es (Ok k) = truth_of (is_some (lookup (same_key k) es))
has_key es (Err fault) = Err BadOperands

abbrev pub in_text : Value → List ℕ → Outcome
in_text (Str part) text = truth_of (is_part part text)
in_text v text = Err BadOperands

-- `v in w`
abbrev pub within : List (Option Cell) → Value → Value → Outcome
within cells v (Array s) = is_found (first_equal (λ w. same_value cells v w) 0 (items_of (cell_at cells s.0)))
within cells v (Dict s) = has_key (entries_of (cell_at cells s.0)) (key_of v)
within cells v (Str s) = in_text v s
within cells v w = Err BadOperands

abbrev pub answered : Result Bool RunFault → Outcome
answered (Ok b) = truth_of b
answered (Err fault) = Err fault

abbrev pub denied : Result Bool RunFault → Outcome
denied (Ok b) = truth_of (not b)
denied (Err fault) = Err fault

-- a new array of the items of both
abbrev pub arrays_joined : Heap → ℕ → ℕ → Given
arrays_joined h a b = counted (length (items_of (cell_at h.cells a) ++ items_of (cell_at h.cells b))) (new_array h (items_of (cell_at h.cells a) ++ items_of (cell_at h.cells b)) (common (element_of (cell_at h.cells a)) (element_of (cell_at h.cells b))))

abbrev pub added : Heap → Value → Value → Given
added h (Array a) (Array b) = arrays_joined h a.0 b.0
added h v w = looked h (binary_of Add v w)

-- a text before `%` is a pattern, and a number is divided
abbrev pub remainder : Names → List (Option Cell) → Value → Value → Outcome
remainder names cells (Str pattern) w = string_result (format_value cells names pattern w)
remainder names cells v w = binary_of Rem v w

-- the answer of a call that gives a text, as one that gives a value
abbrev pub text_answer : Result (List ℕ) Trouble → Result Value Trouble
text_answer (Ok text) = Ok (Str text)
text_answer (Err trouble) = Err trouble

-- What an operator gives, and the heap after it. `and` and `or` look at their second operand only at times, and are read
-- elsewhere.
abbrev pub operated : Names → Heap → BinaryOp → Value → Value → Given
operated names h Within v w = looked h (within h.cells v w)
operated names h Eq v w = looked h (answered (equality h.cells v w))
operated names h Ne v w = looked h (denied (equality h.cells v w))
operated names h Add v w = added h v w
operated names h Rem v w = looked h (remainder names h.cells v w)
operated names h op v w = looked h (binary_of op v w)

-- `and` and `or` are read elsewhere
abbrev pub is_value_op : BinaryOp → Bool
is_value_op And = false
is_value_op Or = false
is_value_op op = true
