-- Arguments outside the row of a call are refused: a rule for each form of parameters, and then a line for each row.
use Rattle.std.proofs.Common.{◌≡◌, ℤ, Bool, true, false, List, [], ◌∷◌, refl, ap, Option, Some, None, Result, Err}
use Rattle.std.specs.Prelude.{◌&&◌, option_map}
use Rattle.std.specs.List.{list_all}
use Rattle.variant_values.specs.declared.cells.Cell.{Cell}
use Rattle.variant_values.specs.declared.faults.RunFault.{RunFault}
use Rattle.variant_values.specs.declared.faults.RunFault.TheVariants.{BadArgs}
use Rattle.variant_values.specs.declared.values.Value.{Value}
use Rattle.variant_values.specs.declared.values.Value.TheVariants.{Bool as Truth, Int, Str, Array, Dict, Object}
use Rattle.variant_values.specs.ContainerCalls.{any_in, truth_in, dict_in, end_in, none_or_one_given, with_none}
use Rattle.variant_values.specs.StringMethods.{string_in, int_in, array_in, count_in, span_in, both, one_given, two_given, one_or_two_given, with_given}
use Rattle.native_calls.specs.Table.{NativeType, AnyValue, ABool, AnInt, AString, AnArray, ADictionary, Sized, AnObject, no_params, one, two, three, one_or_two, none_or_one, two_or_more, range_params, admits, admitted}
use Rattle.native_calls.specs.Globals.{length_of, all_ints, three_ints, most_given, object_in, span_in as range_in, span_to, span_between, span_by}

-- a value that is not of the type is not taken
abbrev pub Rejects : {A : Type 0} → List (Option Cell) → NativeType → (Value → Option A) → Type 0
Rejects cells of first = (v : Value) → admits cells of v ≡ false → first v ≡ None

pub any_out : (cells : List (Option Cell)) → Rejects cells AnyValue any_in
any_out cells v h = cc

pub truth_out : (cells : List (Option Cell)) → Rejects cells ABool truth_in
truth_out cells (Truth b) h = cc
truth_out cells v h = refl

pub int_out : (cells : List (Option Cell)) → Rejects cells AnInt int_in
int_out cells (Int n) h = cc
int_out cells v h = refl

pub count_out : (cells : List (Option Cell)) → Rejects cells AnInt count_in
count_out cells (Int n) h = cc
count_out cells v h = refl

pub length_out : (cells : List (Option Cell)) → Rejects cells AnInt span_in
length_out cells (Int n) h = cc
length_out cells v h = refl

pub end_out : (cells : List (Option Cell)) → Rejects cells AnInt end_in
end_out cells (Int n) h = cc
end_out cells v h = refl

pub string_out : (cells : List (Option Cell)) → Rejects cells AString string_in
string_out cells (Str s) h = cc
string_out cells v h = refl

pub array_out : (cells : List (Option Cell)) → Rejects cells AnArray array_in
array_out cells (Array s) h = cc
array_out cells v h = refl

pub dict_out : (cells : List (Option Cell)) → Rejects cells ADictionary dict_in
dict_out cells (Dict s) h = cc
dict_out cells v h = refl

pub sized_out : (cells : List (Option Cell)) → Rejects cells Sized (length_of cells)
sized_out cells (Str s) h = cc
sized_out cells (Array s) h = cc
sized_out cells (Dict s) h = cc
sized_out cells v h = refl

pub object_out : (cells : List (Option Cell)) → Rejects cells AnObject object_in
object_out cells (Object s) h = cc
object_out cells v h = refl

-- ---- forms of parameters

and_true : (a : Bool) → (a && true) ≡ false → a ≡ false
and_true true h = h
and_true false h = refl

both_right : {A B : Type 0} (x : Option A) → both {B = B} x None ≡ None
both_right None = refl
both_right (Some a) = refl

both_out : {A B : Type 0} (a b : Bool) (x : Option A) (y : Option B) → (a ≡ false → x ≡ None) → (b ≡ false → y ≡ None) → (a && b) ≡ false → both x y ≡ None
both_out false b x y f g h = rw (f refl) refl
both_out true b x y f g h = rw (g h) (both_right x)

pub given_out : {A B : Type 0} (o : Option A) (f : A → Result B RunFault) → o ≡ None → with_given o f ≡ Err BadArgs
given_out o f h = rw h refl

module _ (cells : List (Option Cell)) where
  pub none_refused : {B : Type 0} (args : List Value) (given : Result B RunFault) → admitted cells no_params args ≡ false → with_none args given ≡ Err BadArgs
  none_refused [] given h = cc
  none_refused (v ∷ vs) given h = refl

  pub one_out : {A : Type 0} (of : NativeType) (first : Value → Option A) (args : List Value) → Rejects cells of first → admitted cells (one of) args ≡ false → one_given first args ≡ None
  one_out of first [] f h = refl
  one_out of first (v ∷ []) f h = f v (and_true (admits cells of v) h)
  one_out of first (v ∷ w ∷ vs) f h = refl

  pub two_out : {A B : Type 0} (a b : NativeType) (first : Value → Option A) (second : Value → Option B) (args : List Value) → Rejects cells a first → Rejects cells b second → admitted cells (two a b) args ≡ false → two_given first second args ≡ None
  two_out a b first second [] f g h = refl
  two_out a b first second (v ∷ []) f g h = refl
  two_out a b first second (v ∷ w ∷ []) f g h = both_out (admits cells a v) (admits cells b w && true) (first v) (second w) (f v) (λ e. g w (and_true (admits cells b w) e)) h
  two_out a b first second (v ∷ w ∷ x ∷ vs) f g h = refl

  pub one_or_two_out : {A B : Type 0} (a b : NativeType) (first : Value → Option A) (second : Value → Option B) (default : B) (args : List Value) → Rejects cells a first → Rejects cells b second → admitted cells (one_or_two a b) args ≡ false → one_or_two_given first second default args ≡ None
  one_or_two_out a b first second default [] f g h = refl
  one_or_two_out a b first second default (v ∷ []) f g h = rw (f v (and_true (admits cells a v) h)) refl
  one_or_two_out a b first second default (v ∷ w ∷ []) f g h = both_out (admits cells a v) (admits cells b w && true) (first v) (second w) (f v) (λ e. g w (and_true (admits cells b w) e)) h
  one_or_two_out a b first second default (v ∷ w ∷ x ∷ vs) f g h = refl

  pub none_or_one_out : {A : Type 0} (a : NativeType) (only : Value → Option A) (default : A) (args : List Value) → Rejects cells a only → admitted cells (none_or_one a) args ≡ false → none_or_one_given only default args ≡ None
  none_or_one_out a only default [] f h = cc
  none_or_one_out a only default (v ∷ []) f h = f v (and_true (admits cells a v) h)
  none_or_one_out a only default (v ∷ w ∷ vs) f h = refl

  pub three_out : (args : List Value) → admitted cells (three AnInt AnInt AnInt) args ≡ false → three_ints args ≡ None
  three_out [] h = refl
  three_out (u ∷ []) h = refl
  three_out (u ∷ v ∷ []) h = refl
  three_out (u ∷ v ∷ w ∷ []) h = ap (option_map (λ (p : ℤ × (ℤ × ℤ)). (p.0, p.1.0, p.1.1)))
      (both_out (admits cells AnInt u) (admits cells AnInt v && (admits cells AnInt w && true)) (int_in u) (both (int_in v) (int_in w)) (int_out cells u)
      (both_out (admits cells AnInt v) (admits cells AnInt w && true) (int_in v) (int_in w) (int_out cells v) (λ e. int_out cells w (and_true (admits cells AnInt w) e))) h)
  three_out (u ∷ v ∷ w ∷ x ∷ vs) h = refl

  pub range_out : (args : List Value) → admitted cells range_params args ≡ false → range_in args ≡ None
  range_out [] h = refl
  range_out (u ∷ []) h = ap span_to (int_out cells u (and_true (admits cells AnInt u) h))
  range_out (u ∷ v ∷ []) h = ap span_between (both_out (admits cells AnInt u) (admits cells AnInt v && true) (int_in u) (int_in v) (int_out cells u) (λ e. int_out cells v (and_true (admits cells AnInt v) e)) h)
  range_out (u ∷ v ∷ w ∷ []) h = ap span_by (three_out (u ∷ v ∷ w ∷ []) h)
  range_out (u ∷ v ∷ w ∷ x ∷ vs) h = refl

  ints_out : (args : List Value) → list_all (admits cells AnInt) args ≡ false → all_ints args ≡ None
  ints_out [] h = cc
  ints_out (v ∷ vs) h = ap (option_map (λ (p : ℤ × List ℤ). p.0 ∷ p.1)) (both_out (admits cells AnInt v) (list_all (admits cells AnInt) vs) (int_in v) (all_ints vs) (int_out cells v) (ints_out vs) h)

  one_int : (better : ℤ → ℤ → ℤ) (v : Value) → most_given better (all_ints (v ∷ [])) ≡ None
  one_int better (Int n) = refl
  one_int better v = refl

  pub most_out : (better : ℤ → ℤ → ℤ) (args : List Value) → admitted cells (two_or_more AnInt) args ≡ false → most_given better (all_ints args) ≡ None
  most_out better [] h = refl
  most_out better (v ∷ []) h = one_int better v
  most_out better (v ∷ w ∷ vs) h = ap (most_given better) (ints_out (v ∷ w ∷ vs) h)
