-- The methods of a string, after the Godot manual's "String". A text is seen as its bytes in UTF-8; places and lengths
-- count characters.
use Rattle.std.specs.Prelude.{ℕ, zero, suc, ◌+◌, ◌-◌, ◌^◌, ℤ, pos, negsuc, Bool, true, false, not, nat_le, nat_lt, nat_eq, ◌&&◌, ◌==◌, List, [], ◌∷◌, length, take, drop, map, slice_get, if◌then◌else◌, Option, Some, None, is_some, option_map, Result, Ok, Err, chars, encode_utf8_all}
use Rattle.std.specs.List.{starts_with, ends_with, onto_first, join_by, repeat, list_all}
use Rattle.std.specs.Char.{to_ascii_uppercase, to_ascii_lowercase}
use Rattle.std.specs.Str.{all_ascii_digits}
use Rattle.std.specs.Str.Parse.{without_leading_sign, signed_digits_value}
use Rattle.variant_values.specs.declared.values.Serial.{Serial}
use Rattle.variant_values.specs.declared.values.Value.{Value}
use Rattle.variant_values.specs.declared.values.Value.TheVariants.{Int, Str, Array}
use Rattle.variant_values.specs.declared.cells.Cell.{Cell}
use Rattle.variant_values.specs.declared.faults.RunFault.{RunFault}
use Rattle.variant_values.specs.declared.faults.RunFault.TheVariants.{BadArgs, BadIndex, TooLong}
use Rattle.variant_values.specs.declared.string_methods.StrMethod.{StrMethod}
use Rattle.variant_values.specs.declared.string_methods.StrMethod.TheVariants.{Length, IsEmpty, Substr, Left, Right, Find, Contains, BeginsWith, EndsWith, Replace, Split, Join, Repeat, ToUpper, ToLower, StripEdges, IsValidInt, ToInt, UnicodeAt}
use Rattle.variant_values.specs.Changes.{Given, counted, looked, new_array}
use Rattle.variant_values.specs.Heaps.{Heap, cell_at, items_of}
use Rattle.variant_values.specs.Operators.{Outcome, truth_of, number_of, is_text}
use Rattle.variant_values.specs.ValueTexts.{fits_string, fitting}

-- ---- arguments

-- a string
abbrev pub string_in : Value → Option (List ℕ)
string_in (Str text) = Some text
string_in v = None

-- a whole number
abbrev pub int_in : Value → Option ℤ
int_in (Int n) = Some n
int_in v = None

-- an array
abbrev pub array_in : Value → Option Serial
array_in (Array s) = Some s
array_in v = None

abbrev pub natural : ℤ → Option ℕ
natural (pos n) = Some n
natural (negsuc n) = None

-- a whole number that is not negative
abbrev pub count_in : Value → Option ℕ
count_in (Int n) = natural n
count_in v = None

-- a number of characters, or -1 for the rest
abbrev pub span_of : ℤ → Option (Option ℕ)
span_of (pos n) = Some (Some n)
span_of (negsuc zero) = Some None
span_of (negsuc (suc n)) = None

abbrev pub span_in : Value → Option (Option ℕ)
span_in (Int n) = span_of n
span_in v = None

-- two arguments, where both are as they have to be
abbrev pub both : {A B : Type 0} → Option A → Option B → Option (A × B)
both None b = None
both (Some a) None = None
both (Some a) (Some b) = Some (a, b)

abbrev pub is_none_given : List Value → Bool
is_none_given [] = true
is_none_given (v ∷ vs) = false

abbrev pub one_given : {A : Type 0} → (Value → Option A) → List Value → Option A
one_given first [] = None
one_given first (v ∷ []) = first v
one_given first (v ∷ w ∷ vs) = None

abbrev pub two_given : {A B : Type 0} → (Value → Option A) → (Value → Option B) → List Value → Option (A × B)
two_given first second [] = None
two_given first second (v ∷ []) = None
two_given first second (v ∷ w ∷ []) = both (first v) (second w)
two_given first second (v ∷ w ∷ x ∷ vs) = None

-- the second may be left out
abbrev pub one_or_two_given : {A B : Type 0} → (Value → Option A) → (Value → Option B) → B → List Value → Option (A × B)
one_or_two_given first second default [] = None
one_or_two_given first second default (v ∷ []) = both (first v) (Some default)
one_or_two_given first second default (v ∷ w ∷ []) = both (first v) (second w)
one_or_two_given first second default (v ∷ w ∷ x ∷ vs) = None

-- arguments that are not as they have to be are refused
abbrev pub with_given : {A B : Type 0} → Option A → (A → Result B RunFault) → Result B RunFault
with_given None f = Err BadArgs
with_given (Some a) f = f a

-- ---- texts

-- a string of the language, no longer than one may be
abbrev pub string_result : Result (List ℕ) RunFault → Outcome
string_result (Ok text) = Ok (Str text)
string_result (Err fault) = Err fault

abbrev pub made : List ℕ → Outcome
made text = string_result (fitting text)

-- the text of characters
abbrev pub spelled : List ℕ → List ℕ
spelled cs = encode_utf8_all cs

-- so many characters from a place on, or the rest
abbrev pub span_at : ℕ → Option ℕ → List ℕ → List ℕ
span_at from None cs = drop from cs
span_at from (Some n) cs = take n (drop from cs)

-- the last characters
abbrev pub last_chars : ℕ → List ℕ → List ℕ
last_chars n cs = drop (length cs - n) cs

-- the place where a list first stands in another
abbrev pub first_place : List ℕ → List ℕ → Option ℕ
first_place what [] = if starts_with nat_eq [] what then Some 0 else None
first_place what (b ∷ bs) = if starts_with nat_eq (b ∷ bs) what then Some 0 else option_map (λ n. suc n) (first_place what bs)

-- the place in characters from a place on, and none past the end
abbrev pub place_from : List ℕ → ℕ → List ℕ → Option ℕ
place_from what from text =
    if nat_le from (length (chars text)) then option_map (λ n. from + n) (first_place (chars what) (drop from (chars text))) else None

abbrev pub place_number : Option ℕ → ℤ
place_number None = negsuc 0
place_number (Some n) = pos n

-- the text before a first place, and that behind it
abbrev pub first_split : List ℕ → List ℕ → Option (List ℕ × List ℕ)
first_split by text = option_map (λ place. (take place text, drop (place + length by) text)) (first_place by text)

-- The parts between the places of a text, from the left, where no two places share a byte. The first `skip` bytes are
-- those of a place and are passed over.
abbrev pub parts_after : ℕ → List ℕ → List ℕ → List (List ℕ)
parts_after skip by [] = [] ∷ []
parts_after zero by (b ∷ bs) = if starts_with nat_eq (b ∷ bs) by then [] ∷ parts_after (length by - 1) by bs else onto_first b (parts_after zero by bs)
parts_after (suc skip) by (b ∷ bs) = parts_after skip by bs

abbrev pub parts : List ℕ → List ℕ → List (List ℕ)
parts by text = parts_after 0 by text

abbrev pub joined_texts : List ℕ → List (List ℕ) → List ℕ
joined_texts separator texts = join_by (λ t. t) separator texts

-- each place of a text gets another text
abbrev pub replaced : List ℕ → List ℕ → List ℕ → List ℕ
replaced what with_ text = joined_texts with_ (parts what text)

-- a code point up to 32 is one byte in UTF-8
abbrev pub is_edge : ℕ → Bool
is_edge b = nat_le b 32

abbrev pub without_front : List ℕ → List ℕ
without_front [] = []
without_front (b ∷ bs) = if is_edge b then without_front bs else b ∷ bs

abbrev pub without_back : List ℕ → List ℕ
without_back [] = []
without_back (b ∷ bs) = if is_edge b && (length (without_back bs) == 0) then [] else b ∷ without_back bs

-- an optional sign, and digits
abbrev pub is_whole_number : List ℕ → Bool
is_whole_number text = not (length (without_leading_sign text) == 0) && all_ascii_digits (without_leading_sign text)

-- the numbers of 64 bits
abbrev pub is_in_range : ℤ → Bool
is_in_range (pos n) = nat_lt n (2 ^ 63)
is_in_range (negsuc n) = nat_lt n (2 ^ 63)

abbrev pub whole_number : List ℕ → Option ℤ
whole_number text = if is_whole_number text && is_in_range (signed_digits_value 10 text) then Some (signed_digits_value 10 text) else None

abbrev pub int_result : Option ℤ → Outcome
int_result None = Err BadArgs
int_result (Some n) = number_of n

abbrev pub code_point : Option ℕ → Outcome
code_point None = Err BadIndex
code_point (Some c) = number_of (pos c)

abbrev pub nth_char : List ℕ → Option ℕ → Option ℕ
nth_char cs None = None
nth_char cs (Some n) = slice_get cs n

-- the character at an index that is not negative
abbrev pub char_at : List ℕ → ℤ → Option ℕ
char_at cs i = nth_char cs (natural i)

-- ---- the methods, each by its arguments

abbrev pub length_value : List ℕ → List Value → Outcome
length_value text args = if is_none_given args then number_of (pos (length (chars text))) else Err BadArgs

abbrev pub emptiness_value : List ℕ → List Value → Outcome
emptiness_value text args = if is_none_given args then truth_of (length text == 0) else Err BadArgs

abbrev pub substr_value : List ℕ → List Value → Outcome
substr_value text args = with_given (one_or_two_given count_in span_in None args) (λ a. made (spelled (span_at a.0 a.1 (chars text))))

abbrev pub left_value : List ℕ → List Value → Outcome
left_value text args = with_given (one_given count_in args) (λ n. made (spelled (take n (chars text))))

abbrev pub right_value : List ℕ → List Value → Outcome
right_value text args = with_given (one_given count_in args) (λ n. made (spelled (last_chars n (chars text))))

abbrev pub find_value : List ℕ → List Value → Outcome
find_value text args = with_given (one_or_two_given string_in count_in 0 args) (λ a. number_of (place_number (place_from a.0 a.1 text)))

abbrev pub contains_value : List ℕ → List Value → Outcome
contains_value text args = with_given (one_given string_in args) (λ what. truth_of (is_some (first_place what text)))

abbrev pub begins_value : List ℕ → List Value → Outcome
begins_value text args = with_given (one_given string_in args) (λ what. truth_of (starts_with nat_eq text what))

abbrev pub ends_value : List ℕ → List Value → Outcome
ends_value text args = with_given (one_given string_in args) (λ what. truth_of (ends_with nat_eq text what))

abbrev pub replace_value : List ℕ → List Value → Outcome
replace_value text args = with_given (two_given string_in string_in args) (λ a. if length a.0 == 0 then Err BadArgs else made (replaced a.0 a.1 text))

abbrev pub repeat_value : List ℕ → List Value → Outcome
repeat_value text args = with_given (one_given count_in args) (λ n. made (repeat n text))

abbrev pub upper_value : List ℕ → List Value → Outcome
upper_value text args = if is_none_given args then made (map to_ascii_uppercase text) else Err BadArgs

abbrev pub lower_value : List ℕ → List Value → Outcome
lower_value text args = if is_none_given args then made (map to_ascii_lowercase text) else Err BadArgs

abbrev pub edges_value : List ℕ → List Value → Outcome
edges_value text args = if is_none_given args then made (without_back (without_front text)) else Err BadArgs

abbrev pub validity_value : List ℕ → List Value → Outcome
validity_value text args = if is_none_given args then truth_of (is_whole_number text) else Err BadArgs

abbrev pub int_value : List ℕ → List Value → Outcome
int_value text args = if is_none_given args then int_result (whole_number text) else Err BadArgs

abbrev pub code_value : List ℕ → List Value → Outcome
code_value text args = with_given (one_given int_in args) (λ i. code_point (char_at (chars text) i))

abbrev pub plain_text : Value → List ℕ
plain_text (Str text) = text
plain_text v = []

-- strings with a separator between them
abbrev pub join_items : List ℕ → List Value → Outcome
join_items separator items = if list_all is_text items then made (join_by plain_text separator items) else Err BadArgs

abbrev pub join_value : List (Option Cell) → List ℕ → List Value → Outcome
join_value cells text args = with_given (one_given array_in args) (λ s. join_items text (items_of (cell_at cells s.0)))

-- parts of a text, each no longer than a string may be, in a new array
abbrev pub split_array : Heap → List (List ℕ) → Given
split_array h texts = if list_all fits_string texts then counted (length texts) (new_array h (map (λ t. Str t) texts) None) else Err TooLong

abbrev pub split_call : Heap → List ℕ → List Value → Given
split_call h text args = with_given (one_given string_in args) (λ by. if length by == 0 then Err BadArgs else split_array h (parts by text))

-- what a method of a string gives, and the heap after it
abbrev pub string_call_of : Heap → StrMethod → List ℕ → List Value → Given
string_call_of h Length text args = looked h (length_value text args)
string_call_of h IsEmpty text args = looked h (emptiness_value text args)
string_call_of h Substr text args = looked h (substr_value text args)
string_call_of h Left text args = looked h (left_value text args)
string_call_of h Right text args = looked h (right_value text args)
string_call_of h Find text args = looked h (find_value text args)
string_call_of h Contains text args = looked h (contains_value text args)
string_call_of h BeginsWith text args = looked h (begins_value text args)
string_call_of h EndsWith text args = looked h (ends_value text args)
string_call_of h Replace text args = looked h (replace_value text args)
string_call_of h Split text args = split_call h text args
string_call_of h Join text args = looked h (join_value h.cells text args)
string_call_of h Repeat text args = looked h (repeat_value text args)
string_call_of h ToUpper text args = looked h (upper_value text args)
string_call_of h ToLower text args = looked h (lower_value text args)
string_call_of h StripEdges text args = looked h (edges_value text args)
string_call_of h IsValidInt text args = looked h (validity_value text args)
string_call_of h ToInt text args = looked h (int_value text args)
string_call_of h UnicodeAt text args = looked h (code_value text args)
