-- Calls of the methods of arrays and dictionaries, by their arguments.
use Rattle.std.specs.Prelude.{ℕ, ℤ, Bool, false, if◌then◌else◌, List, [], ◌∷◌, Option, Some, None, option_map, Result, Err}
use Rattle.variant_values.specs.declared.container_methods.ArrayMethod.{ArrayMethod}
use Rattle.variant_values.specs.declared.container_methods.ArrayMethod.TheVariants.{Size, IsEmpty, Append, PushBack, PushFront, PopBack, PopFront, Front, Back, Insert, RemoveAt, Erase, Clear, Has, Find, Count, Slice, Reverse, Sort, Duplicate, AppendArray, Resize, Fill}
use Rattle.variant_values.specs.declared.container_methods.DictMethod.{DictMethod}
use Rattle.variant_values.specs.declared.container_methods.DictMethod.TheVariants.{Size as DictSize, IsEmpty as DictIsEmpty, Has as DictHas, Get, Keys, Values, Erase as DictErase, Clear as DictClear, Duplicate as DictDuplicate, Merge}
use Rattle.variant_values.specs.declared.faults.RunFault.{RunFault}
use Rattle.variant_values.specs.declared.faults.RunFault.TheVariants.{BadArgs}
use Rattle.variant_values.specs.declared.values.Serial.{Serial}
use Rattle.variant_values.specs.declared.values.Value.{Value}
use Rattle.variant_values.specs.declared.values.Value.TheVariants.{Null, Bool as Truth, Dict}
use Rattle.variant_values.specs.Heaps.{Heap}
use Rattle.variant_values.specs.Operators.{key_of}
use Rattle.variant_values.specs.StringMethods.{array_in, int_in, is_none_given, one_given, one_or_two_given, two_given, with_given}
use Rattle.variant_values.specs.Changes.{Given, looked}
use Rattle.variant_values.specs.ArrayMethods.{append_array_of, append_of, back_of, clear_of, count_of, emptiness_of, erase_of, fill_of, find_of, front_of, has_of, insert_of, items_at, pop_back_of, pop_front_of, push_front_of, remove_at_of, reverse_of, size_of, slice_from_of, slice_of, sort_of}
use Rattle.variant_values.specs.DictMethods.{dict_clear_of, dict_emptiness_of, dict_erase_of, dict_size_of, entries_in, keys_of, merge_of, presence_of, value_of, values_of}
use Rattle.variant_values.specs.Resizes.{resize_of}
use Rattle.variant_values.specs.Copies.{array_duplicate_of, dict_duplicate_of}

-- ---- arguments

-- any value
abbrev pub any_in : Value → Option Value
any_in v = Some v

abbrev pub truth_in : Value → Option Bool
truth_in (Truth b) = Some b
truth_in v = None

abbrev pub dict_in : Value → Option Serial
dict_in (Dict s) = Some s
dict_in v = None

-- an end that may be left out
abbrev pub end_in : Value → Option (Option ℤ)
end_in v = option_map Some (int_in v)

abbrev pub none_or_one_given : {A : Type 0} → (Value → Option A) → A → List Value → Option A
none_or_one_given only default [] = Some default
none_or_one_given only default (v ∷ []) = only v
none_or_one_given only default (v ∷ w ∷ vs) = None

-- no argument
abbrev pub with_none : {A : Type 0} → List Value → Result A RunFault → Result A RunFault
with_none args given = if is_none_given args then given else Err BadArgs

-- ---- the methods

abbrev pub slice_to : Heap → ℕ → ℤ → Option ℤ → Given
slice_to h x from None = slice_from_of h x from
slice_to h x from (Some to) = slice_of h x from to

-- what a method of the array x gives, and the heap after it
abbrev pub array_call_of : Heap → ArrayMethod → Serial → List Value → Given
array_call_of h Size x args = with_none args (looked h (size_of (items_at h x.0)))
array_call_of h IsEmpty x args = with_none args (looked h (emptiness_of (items_at h x.0)))
array_call_of h Append x args = with_given (one_given any_in args) (λ v. append_of h x.0 v)
array_call_of h PushBack x args = with_given (one_given any_in args) (λ v. append_of h x.0 v)
array_call_of h PushFront x args = with_given (one_given any_in args) (λ v. push_front_of h x.0 v)
array_call_of h PopBack x args = with_none args (pop_back_of h x.0)
array_call_of h PopFront x args = with_none args (pop_front_of h x.0)
array_call_of h Front x args = with_none args (looked h (front_of (items_at h x.0)))
array_call_of h Back x args = with_none args (looked h (back_of (items_at h x.0)))
array_call_of h Insert x args = with_given (two_given int_in any_in args) (λ a. insert_of h x.0 a.0 a.1)
array_call_of h RemoveAt x args = with_given (one_given int_in args) (λ i. remove_at_of h x.0 i)
array_call_of h Erase x args = with_given (one_given any_in args) (λ v. erase_of h x.0 v)
array_call_of h Clear x args = with_none args (clear_of h x.0)
array_call_of h Has x args = with_given (one_given any_in args) (λ v. looked h (has_of h x.0 v))
array_call_of h Find x args = with_given (one_given any_in args) (λ v. looked h (find_of h x.0 v))
array_call_of h Count x args = with_given (one_given any_in args) (λ v. looked h (count_of h x.0 v))
array_call_of h Slice x args = with_given (one_or_two_given int_in end_in None args) (λ a. slice_to h x.0 a.0 a.1)
array_call_of h Reverse x args = with_none args (reverse_of h x.0)
array_call_of h Sort x args = with_none args (sort_of h x.0)
array_call_of h Duplicate x args = with_given (none_or_one_given truth_in false args) (λ deep. array_duplicate_of h x deep)
array_call_of h AppendArray x args = with_given (one_given array_in args) (λ y. append_array_of h x.0 y.0)
array_call_of h Resize x args = with_given (one_given int_in args) (λ n. resize_of h x.0 n)
array_call_of h Fill x args = with_given (one_given any_in args) (λ v. fill_of h x.0 v)

-- what a method of the dictionary x gives, and the heap after it
abbrev pub dict_call_of : Heap → DictMethod → Serial → List Value → Given
dict_call_of h DictSize x args = with_none args (looked h (dict_size_of (entries_in h x.0)))
dict_call_of h DictIsEmpty x args = with_none args (looked h (dict_emptiness_of (entries_in h x.0)))
dict_call_of h DictHas x args = with_given (one_given any_in args) (λ k. looked h (presence_of (entries_in h x.0) (key_of k)))
dict_call_of h Get x args = with_given (one_or_two_given any_in any_in Null args) (λ a. looked h (value_of (entries_in h x.0) (key_of a.0) a.1))
dict_call_of h Keys x args = with_none args (keys_of h x.0)
dict_call_of h Values x args = with_none args (values_of h x.0)
dict_call_of h DictErase x args = with_given (one_given any_in args) (λ k. dict_erase_of h x.0 (key_of k))
dict_call_of h DictClear x args = with_none args (dict_clear_of h x.0)
dict_call_of h DictDuplicate x args = with_given (none_or_one_given truth_in false args) (λ deep. dict_duplicate_of h x deep)
dict_call_of h Merge x args = with_given (one_or_two_given dict_in truth_in false args) (λ a. merge_of h x.0 a.0.0 a.1)
