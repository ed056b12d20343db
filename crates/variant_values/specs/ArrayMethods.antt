-- The methods of arrays, after the Godot manual's page of Array.
use Rattle.std.specs.Prelude.{ℕ, ◌-◌, ℤ, pos, negsuc, Bool, true, false, nat_eq, nat_le, min, if◌then◌else◌, List, [], ◌∷◌, length, take, drop, reverse, replicate, slice_get, unwrap_or, Option, Some, None, is_some, Result, Ok, Err}
use Rattle.std.specs.List.{list_all}
use Rattle.std.specs.Ordering.{int_cmp, is_lt}
use Rattle.std.specs.Int.RustNames.{int_lt, unsigned_abs}
use Rattle.variant_values.specs.declared.faults.RunFault.{RunFault}
use Rattle.variant_values.specs.declared.faults.RunFault.TheVariants.{BadOperands, BadIndex, ElementType}
use Rattle.variant_values.specs.declared.values.Value.{Value}
use Rattle.variant_values.specs.declared.values.Value.TheVariants.{Null, Int, Str}
use Rattle.variant_values.specs.Heaps.{Heap, cell_at, items_of, spliced, with_splice}
use Rattle.variant_values.specs.Operators.{Outcome, is_text, number_of, text_order, truth_of}
use Rattle.variant_values.specs.Changes.{Given, counted, new_array, weighed}
use Rattle.variant_values.specs.Comparisons.{count_equal, first_equal, same_value}
use Rattle.variant_values.specs.ElementTypes.{all_taken, element_of, is_taken}
use Rattle.variant_values.specs.Indexing.{spot}

abbrev pub items_at : Heap → ℕ → List Value
items_at h x = items_of (cell_at h.cells x)

-- how many items: `size`
abbrev pub size_of : List Value → Outcome
size_of vs = number_of (pos (length vs))

-- `is_empty`
abbrev pub emptiness_of : List Value → Outcome
emptiness_of vs = truth_of (nat_eq (length vs) 0)

-- null where there is no such item
abbrev pub item_or_null : Option Value → Value
item_or_null found = unwrap_or found Null

-- `front` and `back`
abbrev pub front_of : List Value → Outcome
front_of vs = Ok (item_or_null (slice_get vs 0))

abbrev pub back_of : List Value → Outcome
back_of vs = Ok (item_or_null (slice_get vs (length vs - 1)))

-- values put into an array in the place of the `out` items from `at` on: all are of its element type, and there are not
-- too many then
abbrev pub put_of : Heap → ℕ → ℕ → ℕ → List Value → Value → Given
put_of h x at out put gives = if all_taken h.cells (element_of (cell_at h.cells x)) put then counted (length (spliced (items_at h x) at out put)) (weighed (with_splice h x at out put) gives) else Err ElementType

-- `append` and `push_back`
abbrev pub append_of : Heap → ℕ → Value → Given
append_of h x v = put_of h x (length (items_at h x)) 0 (v ∷ []) Null

abbrev pub push_front_of : Heap → ℕ → Value → Given
push_front_of h x v = put_of h x 0 0 (v ∷ []) Null

abbrev pub append_array_of : Heap → ℕ → ℕ → Given
append_array_of h x y = put_of h x (length (items_at h x)) 0 (items_at h y) Null

-- a negative place counts from the end, and the size puts last
abbrev pub spot_between : ℤ → ℕ → Option ℕ
spot_between i n = if int_lt i (pos 0) then (if nat_le (unsigned_abs i) n then Some (n - unsigned_abs i) else None) else (if nat_le (unsigned_abs i) n then Some (unsigned_abs i) else None)

abbrev pub inserted : Heap → ℕ → Option ℕ → Value → Given
inserted h x None v = Err BadIndex
inserted h x (Some i) v = put_of h x i 0 (v ∷ []) (Int (pos 0))

abbrev pub insert_of : Heap → ℕ → ℤ → Value → Given
insert_of h x i v = inserted h x (spot_between i (length (items_at h x))) v

-- The array without one item, where there is a place. What takes items out makes no heap heavier, so that it is not refused.
abbrev pub removed : Heap → ℕ → Option ℕ → Given → Given
removed h x None other = other
removed h x (Some i) other = Ok (Null, with_splice h x i 1 [])

abbrev pub remove_at_of : Heap → ℕ → ℤ → Given
remove_at_of h x i = removed h x (spot i (length (items_at h x))) (Err BadIndex)

-- the array without the first item that v equals
abbrev pub erased : Heap → ℕ → Result (Option ℕ) RunFault → Given
erased h x (Err fault) = Err fault
erased h x (Ok found) = removed h x found (Ok (Null, h))

abbrev pub erase_of : Heap → ℕ → Value → Given
erase_of h x v = erased h x (first_equal (λ w. same_value h.cells v w) 0 (items_at h x))

-- the item of a place, which is taken out; null where there is none
abbrev pub popped : Heap → ℕ → ℕ → Option Value → Given
popped h x at None = Ok (Null, h)
popped h x at (Some v) = Ok (v, with_splice h x at 1 [])

abbrev pub pop_back_of : Heap → ℕ → Given
pop_back_of h x = popped h x (length (items_at h x) - 1) (slice_get (items_at h x) (length (items_at h x) - 1))

abbrev pub pop_front_of : Heap → ℕ → Given
pop_front_of h x = popped h x 0 (slice_get (items_at h x) 0)

abbrev pub clear_of : Heap → ℕ → Given
clear_of h x = Ok (Null, with_splice h x 0 (length (items_at h x)) [])

abbrev pub reverse_of : Heap → ℕ → Given
reverse_of h x = weighed (with_splice h x 0 (length (items_at h x)) (reverse (items_at h x))) Null

-- every item becomes v
abbrev pub fill_of : Heap → ℕ → Value → Given
fill_of h x v = if is_taken h.cells (element_of (cell_at h.cells x)) v then weighed (with_splice h x 0 (length (items_at h x)) (replicate (length (items_at h x)) v)) Null else Err ElementType

-- a place cut to the array, where a negative one counts from the end
abbrev pub cut : ℤ → ℕ → ℕ
cut i n = if int_lt i (pos 0) then n - unsigned_abs i else min (unsigned_abs i) n

abbrev pub between : List Value → ℕ → ℕ → List Value
between vs a b = take (b - a) (drop a vs)

-- `slice`, of the same element type
abbrev pub slice_of : Heap → ℕ → ℤ → ℤ → Given
slice_of h x a b = new_array h (between (items_at h x) (cut a (length (items_at h x))) (cut b (length (items_at h x)))) (element_of (cell_at h.cells x))

abbrev pub slice_from_of : Heap → ℕ → ℤ → Given
slice_from_of h x a = new_array h (between (items_at h x) (cut a (length (items_at h x))) (length (items_at h x))) (element_of (cell_at h.cells x))

-- `duplicate`, which leaves containers inside as they are
abbrev pub shallow_of : Heap → ℕ → Given
shallow_of h x = new_array h (items_at h x) (element_of (cell_at h.cells x))

-- `has`, `find` and `count`
abbrev pub has_found : Result (Option ℕ) RunFault → Outcome
has_found (Ok found) = truth_of (is_some found)
has_found (Err fault) = Err fault

-- -1 where there is none
abbrev pub place_number : Option ℕ → ℤ
place_number None = negsuc 0
place_number (Some i) = pos i

abbrev pub place_found : Result (Option ℕ) RunFault → Outcome
place_found (Ok found) = number_of (place_number found)
place_found (Err fault) = Err fault

abbrev pub number_found : Result ℕ RunFault → Outcome
number_found (Ok n) = number_of (pos n)
number_found (Err fault) = Err fault

abbrev pub has_of : Heap → ℕ → Value → Outcome
has_of h x v = has_found (first_equal (λ w. same_value h.cells v w) 0 (items_at h x))

abbrev pub find_of : Heap → ℕ → Value → Outcome
find_of h x v = place_found (first_equal (λ w. same_value h.cells v w) 0 (items_at h x))

abbrev pub count_of : Heap → ℕ → Value → Outcome
count_of h x v = number_found (count_equal (λ w. same_value h.cells v w) 0 (items_at h x))

-- a value put into a list before the first that is not before it
abbrev pub put_in : (Value → Value → Bool) → Value → List Value → List Value
put_in before v [] = v ∷ []
put_in before v (w ∷ ws) = if before w v then w ∷ put_in before v ws else v ∷ w ∷ ws

-- the values in order
abbrev pub in_order : (Value → Value → Bool) → List Value → List Value
in_order before [] = []
in_order before (v ∷ vs) = put_in before v (in_order before vs)

abbrev pub is_number : Value → Bool
is_number (Int n) = true
is_number v = false

abbrev pub number_in : Value → ℤ
number_in (Int n) = n
number_in v = pos 0

abbrev pub text_in : Value → List ℕ
text_in (Str text) = text
text_in v = []

abbrev pub number_before : Value → Value → Bool
number_before v w = is_lt (int_cmp (number_in v) (number_in w))

abbrev pub text_before : Value → Value → Bool
text_before v w = is_lt (text_order (text_in v) (text_in w))

abbrev pub put_in_order : Heap → ℕ → (Value → Value → Bool) → Given
put_in_order h x before = weighed (with_splice h x 0 (length (items_at h x)) (in_order before (items_at h x))) Null

-- `sort`: all are whole numbers, or all are texts
abbrev pub sort_of : Heap → ℕ → Given
sort_of h x = if list_all is_number (items_at h x) then put_in_order h x number_before else (if list_all is_text (items_at h x) then put_in_order h x text_before else Err BadOperands)
