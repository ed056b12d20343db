-- The operators on values that stand in no cell, after the Godot manual's "GDScript reference", "Operators". Whole
-- numbers have 64 bits and wrap around.
use Rattle.std.specs.Prelude.{◌≡◌, ℕ, ◌+◌, ℤ, pos, ◌+ℤ◌, ◌-ℤ◌, ◌*ℤ◌, Bool, true, false, not, ◌&&◌, nat_eq, nat_le, if◌then◌else◌, List, ◌++◌, length, option_map, Option, Some, None, Result, Ok, Err}
use mathlib.Core.Bool.{beq}
use Rattle.std.specs.Int.{int_wrap, int_wrapping_div, int_shl, int_shr, int_bit_and, int_bit_xor, int_bit_or, int_bit_not, int_wrapping_neg, w64}
use Rattle.std.specs.Int.RustNames.{int_rem, int_lt, unsigned_abs}
use Rattle.std.specs.Ordering.{int_eq, nat_cmp, is_lt, is_gt, is_le, is_ge}
use Rattle.std.specs.Cmp.Lexicographic.{pointwise, slice_cmp}
use Rattle.std.specs.declared.cmp.Ordering.{Ordering}
use Rattle.variant_values.specs.declared.operators.BinaryOp.{BinaryOp}
use Rattle.variant_values.specs.declared.operators.BinaryOp.TheVariants.{Add, Sub, Mul, Div, Rem, Shl, Shr, BitAnd, BitXor, BitOr, Eq, Ne, Lt, Gt, Le, Ge, Within, And, Or}
use Rattle.variant_values.specs.declared.operators.UnaryOp.{UnaryOp}
use Rattle.variant_values.specs.declared.operators.UnaryOp.TheVariants.{Inv, Plus, Neg}
use Rattle.variant_values.specs.declared.faults.RunFault.{RunFault}
use Rattle.variant_values.specs.declared.faults.RunFault.TheVariants.{BadOperands, BadKey, DivisionByZero, BadShift, TooLong}
use Rattle.variant_values.specs.declared.faults.Trouble.{Trouble}
use Rattle.variant_values.specs.declared.faults.Trouble.TheVariants.{Fault, NoMemory}
use Rattle.variant_values.specs.declared.values.Value.{Value}
use Rattle.variant_values.specs.declared.values.Value.TheVariants.{Null, Bool as Truth, Int, Str, Array, Dict, Object, Callable, Signal, Class, Scene, Weak}
use Rattle.variant_values.specs.declared.values.Key.{Key}
use Rattle.variant_values.specs.declared.values.Key.TheVariants.{Bool as KeyTruth, Int as KeyInt, Str as KeyStr, Object as KeyObject}
use Rattle.variant_values.specs.Classes.{same_class}

-- what an operation gives, where memory suffices
abbrev pub Outcome : Type 0
Outcome = Result Value RunFault

-- the bytes that a string may have
abbrev pub longest : ℕ
longest = 1048576

-- the items that an array may have, the entries that a dictionary may have, and the items that a walk of a value may come to
abbrev pub most_items : ℕ
most_items = 1048576

abbrev pub truth_of : Bool → Outcome
truth_of b = Ok (Truth b)

abbrev pub number_of : ℤ → Outcome
number_of n = Ok (Int n)

-- the quotient or remainder, where the divisor is not 0
abbrev pub divided : ℤ → ℤ → Outcome
divided divisor result = if int_eq divisor (pos 0) then Err DivisionByZero else number_of result

-- the amount of a shift is from 0 to 63
abbrev pub amount_of : ℤ → Option ℕ
amount_of amount = if not (int_lt amount (pos 0)) && int_lt amount (pos 64) then Some (unsigned_abs amount) else None

abbrev pub shifted : Option ℕ → (ℕ → ℤ) → Outcome
shifted None result = Err BadShift
shifted (Some n) result = number_of (result n)

-- Division cuts towards zero, and the remainder has the sign of the dividend. `>>` keeps the sign.
abbrev pub int_binary : BinaryOp → ℤ → ℤ → Outcome
int_binary Add a b = number_of (int_wrap w64 (a +ℤ b))
int_binary Sub a b = number_of (int_wrap w64 (a -ℤ b))
int_binary Mul a b = number_of (int_wrap w64 (a *ℤ b))
int_binary Div a b = divided b (int_wrapping_div w64 a b)
int_binary Rem a b = divided b (int_rem a b)
int_binary Shl a b = shifted (amount_of b) (int_shl w64 a)
int_binary Shr a b = shifted (amount_of b) (int_shr a)
int_binary BitAnd a b = number_of (int_bit_and w64 a b)
int_binary BitXor a b = number_of (int_bit_xor w64 a b)
int_binary BitOr a b = number_of (int_bit_or w64 a b)
int_binary Eq a b = truth_of (int_eq a b)
int_binary Ne a b = truth_of (not (int_eq a b))
int_binary Lt a b = truth_of (int_lt a b)
int_binary Gt a b = truth_of (int_lt b a)
int_binary Le a b = truth_of (not (int_lt b a))
int_binary Ge a b = truth_of (not (int_lt a b))
int_binary _ a b = Err BadOperands

abbrev pub joined : List ℕ → List ℕ → Outcome
joined a b = if nat_le (length a + length b) longest then Ok (Str (a ++ b)) else Err TooLong

-- by code points, as the bytes of UTF-8 are ordered
abbrev pub text_order : List ℕ → List ℕ → Ordering
text_order = slice_cmp nat_cmp

abbrev pub same_text : List ℕ → List ℕ → Bool
same_text = pointwise nat_eq

abbrev pub text_binary : BinaryOp → List ℕ → List ℕ → Outcome
text_binary Add a b = joined a b
text_binary Eq a b = truth_of (same_text a b)
text_binary Ne a b = truth_of (not (same_text a b))
text_binary Lt a b = truth_of (is_lt (text_order a b))
text_binary Gt a b = truth_of (is_gt (text_order a b))
text_binary Le a b = truth_of (is_le (text_order a b))
text_binary Ge a b = truth_of (is_ge (text_order a b))
text_binary _ a b = Err BadOperands

-- Whether two values are equal, where one is null or both are of one kind: all their parts are.
abbrev pub equal : Value → Value → Option Bool
equal Null Null = Some true
equal Null b = Some false
equal a Null = Some false
equal (Truth a) (Truth b) = Some (beq a b)
equal (Int a) (Int b) = Some (int_eq a b)
equal (Str a) (Str b) = Some (same_text a b)
equal (Object a) (Object b) = Some (nat_eq a.0 b.0)
equal (Callable a f) (Callable b g) = Some (nat_eq a.0 b.0 && same_text f g)
equal (Signal a f) (Signal b g) = Some (nat_eq a.0 b.0 && same_text f g)
equal (Class a) (Class b) = Some (same_class a b)
equal (Scene a p) (Scene b q) = Some (nat_eq a b && same_text p q)
equal (Weak a) (Weak b) = Some (nat_eq a.0 b.0)
equal a b = None

abbrev pub or_bad : Option Bool → Outcome
or_bad None = Err BadOperands
or_bad (Some b) = truth_of b

abbrev pub other_binary : BinaryOp → Value → Value → Outcome
other_binary Eq a b = or_bad (equal a b)
other_binary Ne a b = or_bad (option_map not (equal a b))
other_binary _ a b = Err BadOperands

abbrev pub binary_of : BinaryOp → Value → Value → Outcome
binary_of op (Int a) (Int b) = int_binary op a b
binary_of op (Str a) (Str b) = text_binary op a b
binary_of op a b = other_binary op a b

abbrev pub int_unary : UnaryOp → ℤ → ℤ
int_unary Inv a = int_bit_not w64 a
int_unary Plus a = a
int_unary Neg a = int_wrapping_neg w64 a

abbrev pub unary_of : UnaryOp → Value → Outcome
unary_of op (Int a) = number_of (int_unary op a)
unary_of op a = Err BadOperands

-- the key that a value is
abbrev pub key_of : Value → Result Key RunFault
key_of (Truth b) = Ok (KeyTruth b)
key_of (Int n) = Ok (KeyInt n)
key_of (Str text) = Ok (KeyStr text)
key_of (Object serial) = Ok (KeyObject serial)
key_of v = Err BadKey

abbrev pub is_container : Value → Bool
is_container (Array s) = true
is_container (Dict s) = true
is_container v = false

abbrev pub is_text : Value → Bool
is_text (Str text) = true
is_text v = false

-- the operators that look at values alone
abbrev pub is_scalar_op : BinaryOp → Bool
is_scalar_op Within = false
is_scalar_op And = false
is_scalar_op Or = false
is_scalar_op op = true

-- a call's answer is the outcome, or memory ran out
abbrev pub Answers : {A : Type 0} → Result A Trouble → Result A RunFault → Type 0
Answers (Ok a) outcome = outcome ≡ Ok a
Answers (Err (Fault fault)) outcome = outcome ≡ Err fault
Answers (Err NoMemory) outcome = Unit {0}
