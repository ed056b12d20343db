-- Values that name no cell are known in every heap.
use Rattle.std.proofs.Common.{◌≡◌, ℕ, ℤ, pos, Bool, true, false, List, [], ◌∷◌, ◌++◌, length, slice_index_or, map, refl, ap, subst, Option, Some, None, Result, Ok, Err, IfOk, if◌then◌else◌}
use Rattle.std.proofs.lemmas.Bool.{false≢true}
use Rattle.variant_values.specs.declared.values.Value.{Value}
use Rattle.variant_values.specs.declared.values.Value.TheVariants.{Null, Bool as Truth, Int, Str, Array, Dict, Object, Callable, Signal, Class, Scene, Weak}
use Rattle.variant_values.specs.declared.cells.Cell.{Cell}
use Rattle.variant_values.specs.Heaps.{Heap, knows, is_array}
use Rattle.variant_values.specs.declared.cells.Cell.TheVariants.{Array as ArrayCell}
use Rattle.variant_values.specs.declared.faults.RunFault.{RunFault}
use Rattle.variant_values.specs.declared.faults.RunFault.TheVariants.{BadArgs, BadIndex}
use Rattle.variant_values.specs.declared.faults.Trouble.{Trouble}
use Rattle.variant_values.specs.declared.string_methods.StrMethod.{StrMethod}
use Rattle.variant_values.specs.declared.string_methods.StrMethod.TheVariants.{Length, IsEmpty, Substr, Left, Right, Find, Contains, BeginsWith, EndsWith, Replace, Split, Join, Repeat, ToUpper, ToLower, StripEdges, IsValidInt, ToInt, UnicodeAt}
use Rattle.variant_values.specs.Operators.{Outcome}
use Rattle.variant_values.specs.StringMethods.{with_given, string_result, int_result, code_point, one_given, two_given, one_or_two_given, string_in, int_in, count_in, span_in, array_in, join_value, parts, split_array, split_call, string_call_of}
use Rattle.variant_values.specs.Changes.{Given, HasGiven, looked, new_array}
use Rattle.string_calls.specs.Plain.{is_plain}

pub knows_plain : (cells : List (Option Cell)) (v : Value) → is_plain v ≡ true → knows cells v ≡ true
knows_plain cells Null h = refl
knows_plain cells (Truth b) h = refl
knows_plain cells (Int n) h = refl
knows_plain cells (Str s) h = refl
knows_plain cells (Array s) h = absurd (false≢true h)
knows_plain cells (Dict s) h = absurd (false≢true h)
knows_plain cells (Object s) h = absurd (false≢true h)
knows_plain cells (Callable s m) h = absurd (false≢true h)
knows_plain cells (Signal s m) h = absurd (false≢true h)
knows_plain cells (Class c) h = absurd (false≢true h)
knows_plain cells (Scene f p) h = absurd (false≢true h)
knows_plain cells (Weak s) h = absurd (false≢true h)

-- ---- what the methods give

IsPlain : Outcome → Type 0
IsPlain (Ok v) = is_plain v ≡ true
IsPlain (Err fault) = Unit {0}

plain_value : (v : Value) → is_plain v ≡ true → IsPlain (Ok v)
unfolding IsPlain
plain_value v h = h

plain_fault : (fault : RunFault) → IsPlain (Err fault)
unfolding IsPlain
plain_fault fault = tt

plain_given : {A : Type 0} (o : Option A) (f : A → Outcome) → ((a : A) → IsPlain (f a)) → IsPlain (with_given o f)
plain_given None f h = plain_fault BadArgs
plain_given (Some a) f h = h a

plain_if : (b : Bool) (x y : Outcome) → IsPlain x → IsPlain y → IsPlain (if b then x else y)
plain_if true x y h k = h
plain_if false x y h k = k

plain_string : (r : Result (List ℕ) RunFault) → IsPlain (string_result r)
plain_string (Ok text) = plain_value (Str text) refl
plain_string (Err fault) = plain_fault fault

plain_int : (o : Option ℤ) → IsPlain (int_result o)
plain_int None = plain_fault BadArgs
plain_int (Some n) = plain_value (Int n) refl

plain_code : (o : Option ℕ) → IsPlain (code_point o)
plain_code None = plain_fault BadIndex
plain_code (Some c) = plain_value (Int (pos c)) refl

plain_join : (cells : List (Option Cell)) (text : List ℕ) (args : List Value) → IsPlain (join_value cells text args)
plain_join cells text args = plain_given (one_given array_in args) _ (λ s. plain_if _ _ _ (plain_string _) (plain_fault _))

-- what a call gives is known in the heap after it
IsKnown : Given → Type 0
IsKnown (Ok (v, h)) = knows h.cells v ≡ true
IsKnown (Err fault) = Unit {0}

known_value : (v : Value) (h : Heap) → knows h.cells v ≡ true → IsKnown (Ok (v, h))
unfolding IsKnown
known_value v h k = k

known_fault : (fault : RunFault) → IsKnown (Err fault)
unfolding IsKnown
known_fault fault = tt

known_kept : (h : Heap) (o : Outcome) → IsPlain o → IsKnown (looked h o)
unfolding IsPlain
known_kept h (Ok v) plain = known_value v h (knows_plain h.cells v plain)
known_kept h (Err fault) plain = known_fault fault

known_given : {A : Type 0} (o : Option A) (f : A → Given) → ((a : A) → IsKnown (f a)) → IsKnown (with_given o f)
known_given None f h = known_fault BadArgs
known_given (Some a) f h = h a

known_if : (b : Bool) (x y : Given) → IsKnown x → IsKnown y → IsKnown (if b then x else y)
known_if true x y h k = h
known_if false x y h k = k

last_cell : (cells : List (Option Cell)) (c : Cell) → slice_index_or (cells ++ Some c ∷ []) (length cells) None ≡ Some c
last_cell [] c = refl
last_cell (x ∷ xs) c = last_cell xs c

known_placed : (h : Heap) (items : List Value) → IsKnown (new_array h items None)
known_placed h items = known_if _ _ _ (known_value _ _ (ap is_array (last_cell h.cells (ArrayCell items None)))) (known_fault _)

known_array : (h : Heap) (texts : List (List ℕ)) → IsKnown (split_array h texts)
known_array h texts = known_if _ _ _ (known_if _ _ _ (known_placed h (map (λ t. Str t) texts)) (known_fault _)) (known_fault _)

known_split : (h : Heap) (text : List ℕ) (args : List Value) → IsKnown (split_call h text args)
known_split h text args = known_given (one_given string_in args) _ (λ by. known_if _ _ _ (known_fault _) (known_array h (parts by text)))

known_call : (h : Heap) (method : StrMethod) (text : List ℕ) (args : List Value) → IsKnown (string_call_of h method text args)
known_call h Split text args = known_split h text args
known_call h Join text args = known_kept h _ (plain_join h.cells text args)
known_call h Length text args = known_kept h _ (plain_if _ _ _ (plain_value _ refl) (plain_fault _))
known_call h IsEmpty text args = known_kept h _ (plain_if _ _ _ (plain_value _ refl) (plain_fault _))
known_call h Substr text args = known_kept h _ (plain_given (one_or_two_given count_in span_in None args) _ (λ a. plain_string _))
known_call h Left text args = known_kept h _ (plain_given (one_given count_in args) _ (λ n. plain_string _))
known_call h Right text args = known_kept h _ (plain_given (one_given count_in args) _ (λ n. plain_string _))
known_call h Find text args = known_kept h _ (plain_given (one_or_two_given string_in count_in 0 args) _ (λ a. plain_value _ refl))
known_call h Contains text args = known_kept h _ (plain_given (one_given string_in args) _ (λ what. plain_value _ refl))
known_call h BeginsWith text args = known_kept h _ (plain_given (one_given string_in args) _ (λ what. plain_value _ refl))
known_call h EndsWith text args = known_kept h _ (plain_given (one_given string_in args) _ (λ what. plain_value _ refl))
known_call h Replace text args = known_kept h _ (plain_given (two_given string_in string_in args) _ (λ a. plain_if _ _ _ (plain_fault _) (plain_string _)))
known_call h Repeat text args = known_kept h _ (plain_given (one_given count_in args) _ (λ n. plain_string _))
known_call h ToUpper text args = known_kept h _ (plain_if _ _ _ (plain_string _) (plain_fault _))
known_call h ToLower text args = known_kept h _ (plain_if _ _ _ (plain_string _) (plain_fault _))
known_call h StripEdges text args = known_kept h _ (plain_if _ _ _ (plain_string _) (plain_fault _))
known_call h IsValidInt text args = known_kept h _ (plain_if _ _ _ (plain_value _ refl) (plain_fault _))
known_call h ToInt text args = known_kept h _ (plain_if _ _ _ (plain_int _) (plain_fault _))
known_call h UnicodeAt text args = known_kept h _ (plain_given (one_given int_in args) _ (λ i. plain_code _))

pub known_answer : (old new : Heap) (method : StrMethod) (text : List ℕ) (args : List Value) (r : Result Value Trouble) → HasGiven r old new (string_call_of old method text args) → IfOk r (λ v. knows new.cells v ≡ true)
unfolding IsKnown
known_answer old new method text args (Ok v) h = subst IsKnown h (known_call old method text args)
known_answer old new method text args (Err e) h = tt
