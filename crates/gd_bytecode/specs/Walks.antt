-- What a `for` walks, as it stands in three registers: numbers by the next one, the last one and the step, and null where all
-- are given; an array and the next place; a text and the next byte; a dictionary, the array of its keys and the next place.
use Rattle.std.specs.Prelude.{ℕ, zero, suc, ℤ, pos, ◌+ℤ◌, ◌*ℤ◌, Bool, true, false, List, [], ◌∷◌, drop, length, chars, slice_get, Option, Some, None, Ok, Err}
use Rattle.std.specs.Char.{encode_utf8}
use Rattle.std.specs.Ordering.{int_eq}
use Rattle.native_calls.specs.Globals.{Span}
use Rattle.variant_values.specs.declared.cells.Cell.{Cell}
use Rattle.variant_values.specs.declared.faults.RunFault.TheVariants.{BadArgs, BadOperands}
use Rattle.variant_values.specs.declared.values.Value.{Value}
use Rattle.variant_values.specs.declared.values.Value.TheVariants.{Null, Int, Str, Array, Dict}
use Rattle.variant_values.specs.Changes.{Given}
use Rattle.variant_values.specs.DictMethods.{keys_of}
use Rattle.variant_values.specs.Heaps.{cell_at, items_of}
use Rattle.script_meaning.specs.Meanings.{At-site, heap_at, fails, changed}
use Rattle.script_meaning.specs.Exprs.{below, to_number}

-- the three registers of a walk
pub record Walking : Type 0 where
  pub first : Value
  pub second : Value
  pub third : Value

abbrev pub walking : Walking → List Value
walking w = w.first ∷ w.second ∷ w.third ∷ []

abbrev pub three : Value → Value → Value → Walking
three x y z = record { first = x; second = y; third = z }

abbrev pub numbers_over : Walking
numbers_over = three Null Null Null

abbrev pub numbers_from : ℤ → ℕ → ℤ → Walking
numbers_from first zero by = numbers_over
numbers_from first (suc more) by = three (Int first) (Int (first +ℤ pos more *ℤ by)) (Int by)

abbrev pub span_registers : Span → Walking
span_registers span = numbers_from span.first span.count span.by

abbrev pub keys_registers : Value → Given → At-site Walking
keys_registers of (Ok (Array a, heap)) at m = Ok (three of (Array a) (Int (pos 0)), changed m heap)
keys_registers of (Ok (v, heap)) at m = fails BadOperands at m
keys_registers of (Err kind) at m = fails kind at m

-- the walk of a value, from its start
abbrev pub walk_of : Value → At-site Walking
walk_of (Int n) at m = Ok (span_registers (below n), m)
walk_of (Array a) at m = Ok (three (Array a) (Int (pos 0)) Null, m)
walk_of (Str text) at m = Ok (three (Str text) (Int (pos 0)) Null, m)
walk_of (Dict d) at m = keys_registers (Dict d) (keys_of (heap_at at m) d.0) at m
walk_of v at m = fails BadOperands at m

-- the walk of the numbers of a `range`
abbrev pub walk_of_span : Option Span → At-site Walking
walk_of_span (Some span) at m = Ok (span_registers span, m)
walk_of_span None at m = fails BadArgs at m

-- what a walk gives, and its registers then
abbrev pub Step : Type 0
Step = Option (Value × Walking)

abbrev pub next_number : Bool → ℤ → ℤ → ℤ → Walking
next_number true n last by = numbers_over
next_number false n last by = three (Int (n +ℤ by)) (Int last) (Int by)

abbrev pub next_item : Option Value → Walking → Step
next_item None registers = None
next_item (Some v) registers = Some (v, registers)

abbrev pub next_character : List ℕ → List ℕ → ℤ → Value → Step
next_character [] text at rest = None
next_character (c ∷ cs) text at rest = Some (Str (encode_utf8 c), three (Str text) (Int (at +ℤ pos (length (encode_utf8 c)))) rest)

-- what the walk in these registers gives next; the length of an array is read each time
abbrev pub walk_next : List (Option Cell) → Value → Value → Value → Step
walk_next cells (Int n) (Int last) (Int by) = Some (Int n, next_number (int_eq n last) n last by)
walk_next cells (Array a) (Int i) rest = next_item (slice_get (items_of (cell_at cells a.0)) (to_number i)) (three (Array a) (Int (i +ℤ pos 1)) rest)
walk_next cells (Dict d) (Array a) (Int i) = next_item (slice_get (items_of (cell_at cells a.0)) (to_number i)) (three (Dict d) (Array a) (Int (i +ℤ pos 1)))
walk_next cells (Str text) (Int i) rest = next_character (chars (drop (to_number i) text)) text i rest
walk_next cells x y z = None
