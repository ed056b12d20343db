-- What the global functions give.
use Rattle.std.specs.Prelude.{ℕ, zero, suc, ◌+◌, ◌-◌, ◌/◌, ℤ, pos, ◌+ℤ◌, ◌-ℤ◌, Bool, false, not, ◌&&◌, if◌then◌else◌, List, [], ◌∷◌, ◌++◌, length, codes, chars, Option, Some, None, option_map, Result, Ok, Err}
use Rattle.std.specs.List.{flat_map, list_all}
use Rattle.std.specs.Int.{int_wrapping_neg, w64}
use Rattle.std.specs.Int.RustNames.{int_rem, int_lt, unsigned_abs}
use Rattle.std.specs.Ordering.{int_eq}
use Rattle.variant_values.specs.declared.cells.Cell.{Cell}
use Rattle.variant_values.specs.declared.faults.RunFault.{RunFault}
use Rattle.variant_values.specs.declared.faults.RunFault.TheVariants.{DivisionByZero, TooDeep, TooLong}
use Rattle.variant_values.specs.declared.values.Serial.{Serial}
use Rattle.variant_values.specs.declared.values.Value.{Value}
use Rattle.variant_values.specs.declared.values.Value.TheVariants.{Int, Str, Array, Dict, Object, Weak}
use Rattle.variant_values.specs.Changes.{Given, counted, new_array}
use Rattle.variant_values.specs.Heaps.{Heap, cell_at, items_of, entries_of, is_living}
use Rattle.variant_values.specs.Operators.{Outcome, number_of, truth_of}
use Rattle.variant_values.specs.StringMethods.{int_in, one_given, two_given, both, with_given}
use Rattle.variant_values.specs.ContainerCalls.{any_in}
use Rattle.variant_values.specs.ValueTexts.{Names, most_levels, text_in, items_in, is_within, fits_string}

-- ---- texts

-- The texts of all values, one after the other: `TooDeep` where a walk passes a limit, and then `TooLong` where one is too long.
abbrev pub texts_of : List (Option Cell) → Names → List Value → Result (List ℕ) RunFault
texts_of cells names vs =
    if list_all (λ v. is_within (items_in most_levels cells v)) vs then (if list_all (λ v. fits_string (text_in most_levels cells names v)) vs then Ok (flat_map (λ v. text_in most_levels cells names v) vs) else Err TooLong)
    else Err TooDeep

-- what `print` writes, which is no string, so that its length has no limit of its own
abbrev pub printed_line : Result (List ℕ) RunFault → Result (List ℕ) RunFault
printed_line (Ok text) = Ok (text ++ codes "\n")
printed_line (Err fault) = Err fault

abbrev pub joined_text : Result (List ℕ) RunFault → Outcome
joined_text (Ok text) = if fits_string text then Ok (Str text) else Err TooLong
joined_text (Err fault) = Err fault

-- how many characters, items or entries there are
abbrev pub length_of : List (Option Cell) → Value → Option ℕ
length_of cells (Str s) = Some (length (chars s))
length_of cells (Array s) = Some (length (items_of (cell_at cells s.0)))
length_of cells (Dict s) = Some (length (entries_of (cell_at cells s.0)))
length_of cells v = None

-- ---- numbers

abbrev pub all_ints : List Value → Option (List ℤ)
all_ints [] = Some []
all_ints (v ∷ vs) = option_map (λ p. p.0 ∷ p.1) (both (int_in v) (all_ints vs))

abbrev pub three_ints : List Value → Option (ℤ × ℤ × ℤ)
three_ints (u ∷ v ∷ w ∷ []) = option_map (λ p. (p.0, p.1.0, p.1.1)) (both (int_in u) (both (int_in v) (int_in w)))
three_ints vs = None

abbrev pub larger : ℤ → ℤ → ℤ
larger a b = if int_lt a b then b else a

abbrev pub smaller : ℤ → ℤ → ℤ
smaller a b = if int_lt b a then b else a

-- of two or more
abbrev pub most_by : (ℤ → ℤ → ℤ) → List ℤ → Option ℤ
most_by better [] = None
most_by better (a ∷ []) = None
most_by better (a ∷ b ∷ []) = Some (better a b)
most_by better (a ∷ b ∷ c ∷ ns) = most_by better (better a b ∷ c ∷ ns)

abbrev pub most_given : (ℤ → ℤ → ℤ) → Option (List ℤ) → Option ℤ
most_given better None = None
most_given better (Some ns) = most_by better ns

abbrev pub clamped : ℤ → ℤ → ℤ → ℤ
clamped x lo hi = if int_lt x lo then lo else (if int_lt hi x then hi else x)

-- that of the least number is itself
abbrev pub absolute : ℤ → ℤ
absolute n = if int_lt n (pos 0) then int_wrapping_neg w64 n else n

-- the remainder with the sign of the divisor
abbrev pub turned : ℤ → ℤ → ℤ
turned rem b = if not (int_eq rem (pos 0)) && (if int_lt rem (pos 0) then int_lt (pos 0) b else int_lt b (pos 0)) then rem +ℤ b else rem

abbrev pub pos_mod : ℤ → ℤ → Outcome
pos_mod a b = if int_eq b (pos 0) then Err DivisionByZero else number_of (turned (int_rem a b) b)

-- ---- ranges

-- the numbers of a range: the first, how many, and the step
pub record Span : Type 0 where
  pub first : ℤ
  pub count : ℕ
  pub by : ℤ

-- how many steps of `by` begin within the way
abbrev pub count_over : ℤ → ℕ → ℕ
count_over way by = if int_lt (pos 0) way then (unsigned_abs way + (by - 1)) / by else 0

abbrev pub span_of : ℤ → ℤ → ℤ → Option Span
span_of a b by =
    if int_eq by (pos 0) then None
    else Some (record { first = a; count = (if int_lt (pos 0) by then count_over (b -ℤ a) (unsigned_abs by) else count_over (a -ℤ b) (unsigned_abs by)); by = by })

abbrev pub span_between : Option (ℤ × ℤ) → Option Span
span_between None = None
span_between (Some p) = span_of p.0 p.1 (pos 1)

abbrev pub span_by : Option (ℤ × ℤ × ℤ) → Option Span
span_by None = None
span_by (Some p) = span_of p.0 p.1 p.2

abbrev pub span_to : Option ℤ → Option Span
span_to None = None
span_to (Some n) = span_of (pos 0) n (pos 1)

-- the arguments of `range`
abbrev pub span_in : List Value → Option Span
span_in [] = None
span_in (v ∷ []) = span_to (int_in v)
span_in (v ∷ w ∷ []) = span_between (both (int_in v) (int_in w))
span_in (v ∷ w ∷ x ∷ vs) = span_by (three_ints (v ∷ w ∷ x ∷ vs))

abbrev pub numbers_from : ℤ → ℤ → ℕ → List Value
numbers_from a by zero = []
numbers_from a by (suc n) = Int a ∷ numbers_from (a +ℤ by) by n

abbrev pub range_array : Heap → Span → Given
range_array h s = counted s.count (new_array h (numbers_from s.first s.by s.count) None)

-- ---- objects

abbrev pub object_in : Value → Option Serial
object_in (Object s) = Some s
object_in v = None

abbrev pub is_valid_object : List (Option Cell) → Value → Bool
is_valid_object cells (Object s) = is_living cells s.0
is_valid_object cells v = false

-- ---- the functions, each by its arguments

abbrev pub length_value : List (Option Cell) → List Value → Outcome
length_value cells args = with_given (one_given (length_of cells) args) (λ n. number_of (pos n))

abbrev pub range_value : Heap → List Value → Given
range_value h args = with_given (span_in args) (range_array h)

abbrev pub abs_value : List Value → Outcome
abs_value args = with_given (one_given int_in args) (λ n. number_of (absolute n))

abbrev pub min_value : List Value → Outcome
min_value args = with_given (most_given smaller (all_ints args)) number_of

abbrev pub max_value : List Value → Outcome
max_value args = with_given (most_given larger (all_ints args)) number_of

abbrev pub clamp_value : List Value → Outcome
clamp_value args = with_given (three_ints args) (λ p. number_of (clamped p.0 p.1 p.2))

abbrev pub min_of_two : List Value → Outcome
min_of_two args = with_given (two_given int_in int_in args) (λ p. number_of (smaller p.0 p.1))

abbrev pub max_of_two : List Value → Outcome
max_of_two args = with_given (two_given int_in int_in args) (λ p. number_of (larger p.0 p.1))

abbrev pub pos_mod_value : List Value → Outcome
pos_mod_value args = with_given (two_given int_in int_in args) (λ p. pos_mod p.0 p.1)

-- a weak reference to an object, also to one that has gone
abbrev pub weak_value : List Value → Outcome
weak_value args = with_given (one_given object_in args) (λ s. Ok (Weak s))

-- whether a value is an object that lives
abbrev pub validity_value : List (Option Cell) → List Value → Outcome
validity_value cells args = with_given (one_given any_in args) (λ v. truth_of (is_valid_object cells v))
