-- Operators on values that stand in no cell give values that stand in none.
use Rattle.std.proofs.Common.{◌≡◌, ℕ, ℤ, ◌∙◌, ap, subst, sym, refl, Bool, true, false, not, List, Option, Some, None, Result, Ok, Err}
use Rattle.std.specs.Prelude.{if◌then◌else◌, IfOk, option_map, nat_le, pos, length, ◌+◌, ◌++◌}
use Rattle.variant_values.specs.declared.cells.Cell.{Cell}
use Rattle.variant_values.specs.declared.faults.RunFault.{RunFault}
use Rattle.variant_values.specs.declared.faults.RunFault.TheVariants.{DivisionByZero, TooLong}
use Rattle.std.specs.Int.{int_wrapping_div, int_shl, int_shr, w64}
use Rattle.std.specs.Int.RustNames.{int_rem}
use Rattle.std.specs.Ordering.{int_eq}
use Rattle.variant_values.specs.declared.faults.Trouble.{Trouble}
use Rattle.variant_values.specs.declared.faults.Trouble.TheVariants.{Fault, NoMemory}
use Rattle.variant_values.specs.declared.operators.BinaryOp.{BinaryOp}
use Rattle.variant_values.specs.declared.operators.BinaryOp.TheVariants.{Add, Sub, Mul, Div, Rem, Shl, Shr, BitAnd, BitXor, BitOr, Eq, Ne, Lt, Gt, Le, Ge, Within, And, Or}
use Rattle.variant_values.specs.declared.values.Value.{Value}
use Rattle.variant_values.specs.declared.values.Value.TheVariants.{Null, Bool as Truth, Int, Str, Array, Dict, Object, Callable, Signal, Class, Scene, Weak}
use Rattle.std.proofs.lemmas.Bool.{false≢true}
use Rattle.variant_values.specs.Heaps.{knows}
use Rattle.variant_values.specs.Operations.{remainder}
use Rattle.variant_values.specs.ValueTexts.{Names}
use Rattle.variant_values.specs.Operators.{Outcome, Answers, amount_of, binary_of, equal, int_binary, is_text, longest, number_of, or_bad, other_binary, shifted, text_binary}

abbrev IsPlain : Outcome → Type 0
IsPlain (Ok v) = (cells : List (Option Cell)) → knows cells v ≡ true
IsPlain (Err fault) = Unit {0}

if_plain : (b : Bool) (x y : Outcome) → IsPlain x → IsPlain y → IsPlain (if b then x else y)
if_plain true x y p q = p
if_plain false x y p q = q

shift_plain : (amount : Option ℕ) (f : ℕ → ℤ) → IsPlain (shifted amount f)
shift_plain None f = tt
shift_plain (Some n) f = λ cells. refl

or_plain : (answer : Option Bool) → IsPlain (or_bad answer)
or_plain None = tt
or_plain (Some b) = λ cells. refl

int_plain : (op : BinaryOp) (a b : ℤ) → IsPlain (int_binary op a b)
int_plain Add a b = λ cells. refl
int_plain Sub a b = λ cells. refl
int_plain Mul a b = λ cells. refl
int_plain Div a b = if_plain (int_eq b (pos 0)) (Err DivisionByZero) (number_of (int_wrapping_div w64 a b)) tt (λ cells. refl)
int_plain Rem a b = if_plain (int_eq b (pos 0)) (Err DivisionByZero) (number_of (int_rem a b)) tt (λ cells. refl)
int_plain Shl a b = shift_plain (amount_of b) (int_shl w64 a)
int_plain Shr a b = shift_plain (amount_of b) (int_shr a)
int_plain BitAnd a b = λ cells. refl
int_plain BitXor a b = λ cells. refl
int_plain BitOr a b = λ cells. refl
int_plain Eq a b = λ cells. refl
int_plain Ne a b = λ cells. refl
int_plain Lt a b = λ cells. refl
int_plain Gt a b = λ cells. refl
int_plain Le a b = λ cells. refl
int_plain Ge a b = λ cells. refl
int_plain Within a b = tt
int_plain And a b = tt
int_plain Or a b = tt

text_plain : (op : BinaryOp) (a b : List ℕ) → IsPlain (text_binary op a b)
text_plain Add a b = if_plain (nat_le (length a + length b) longest) (Ok (Str (a ++ b))) (Err TooLong) (λ cells. refl) tt
text_plain Eq a b = λ cells. refl
text_plain Ne a b = λ cells. refl
text_plain Lt a b = λ cells. refl
text_plain Gt a b = λ cells. refl
text_plain Le a b = λ cells. refl
text_plain Ge a b = λ cells. refl
text_plain op a b = tt

other_plain : (op : BinaryOp) (a b : Value) → IsPlain (other_binary op a b)
other_plain Eq a b = or_plain (equal a b)
other_plain Ne a b = or_plain (option_map not (equal a b))
other_plain op a b = tt

binary_plain : (op : BinaryOp) (a b : Value) → IsPlain (binary_of op a b)
binary_plain op (Int a) (Int b) = int_plain op a b
binary_plain op (Str a) (Str b) = text_plain op a b
binary_plain op a b = other_plain op a b

answer_known : (r : Result Value Trouble) (o : Outcome) (cells : List (Option Cell)) → Answers r o → IsPlain o → IfOk r (λ v. knows cells v ≡ true)
answer_known (Ok v) o cells is plain = (subst IsPlain is plain) cells
answer_known (Err (Fault fault)) o cells is plain = tt
answer_known (Err NoMemory) o cells is plain = tt

pub plain_known : (r : Result Value Trouble) (op : BinaryOp) (a b : Value) (cells : List (Option Cell)) → Answers r (binary_of op a b) → IfOk r (λ v. knows cells v ≡ true)
plain_known r op a b cells is = answer_known r (binary_of op a b) cells is (binary_plain op a b)

-- what is no text is divided
pub remainder_is : (names : Names) (cells : List (Option Cell)) (v w : Value) → is_text v ≡ false → remainder names cells v w ≡ binary_of Rem v w
remainder_is names cells (Str text) w h = absurd (false≢true (sym h))
remainder_is names cells v w h = refl

pub divided : (r : Result Value Trouble) (v w : Value) → is_text v ≡ false → Answers r (binary_of Rem v w) → (names : Names) (cells : List (Option Cell)) → Answers r (remainder names cells v w)
divided r v w h is names cells = subst (λ (o : Outcome). Answers r o) (sym (remainder_is names cells v w h)) is
