-- The first place of a test over lists in a row, and tests of registers in a row.
use Rattle.std.proofs.Common.{◌≡◌, ℕ, zero, suc, ◌+◌, ◌<◌, Bool, true, false, nat_le, List, [], ◌∷◌, ◌++◌, length, get_or, drop, refl, sym, ap, ◌∙◌, arith}
use Rattle.std.specs.Prelude.{Some, None}
use native.Mathlib.Numerals.{unary_clauses}
use Rattle.std.proofs.lemmas.Bool.Decides.{nat_tests}
use Rattle.std.proofs.lemmas.Option.{none-some}
use Rattle.std.proofs.Math.Seq.{drop-cons}
use Rattle.std.specs.List.{list_all, position_from, range_with_len}
use Rattle.gd_bytecode.specs.declared.file_code.Code.{Code}
use Rattle.gd_bytecode.specs.declared.file_code.FunctionCode.{FunctionCode}
use Rattle.gd_bytecode.specs.declared.instructions.Op.{Op}
use Rattle.gd_bytecode.specs.Checks.{first_bad, is_below, is_truth, judged, judged_all}

-- ---- registers in a row

-- they are below a limit where the last one is
below_row : (limit a n : ℕ) → list_all (is_below limit) (range_with_len a (suc n)) ≡ nat_le (a + suc n) limit
below_row limit a zero = grind (arith, nat_tests)
below_row limit a (suc n) = grind (arith, nat_tests, below_row limit (a + 1) n)

pub row_test : (limit a n x y z : ℕ) → (n ≡ 0 → ⊥) → x ≡ a → y ≡ n → z ≡ limit → nat_le (x + y) z ≡ list_all (is_below limit) (range_with_len a n)
row_test limit a zero x y z h p q r = absurd (h refl)
row_test limit a (suc n) x y z h p q r = ap (λ m. nat_le (m + y) z) p ∙ ap (λ m. nat_le (a + m) z) q ∙ ap (λ m. nat_le (a + suc n) m) r ∙ sym (below_row limit a n)

-- ---- the first place of a test

-- what is found in a front is found in the whole
found_in_front : (i p : ℕ) (xs ys : List Bool) → position_from is_truth i xs ≡ Some p → position_from is_truth i (xs ++ ys) ≡ Some p
found_in_front i p [] ys h = absurd (none-some p h)
found_in_front i p (true ∷ xs) ys h = h
found_in_front i p (false ∷ xs) ys h = found_in_front (i + 1) p xs ys h

-- where nothing is found in a front, the rest decides
found_behind : (i : ℕ) (xs ys : List Bool) → position_from is_truth i xs ≡ None → position_from is_truth i (xs ++ ys) ≡ position_from is_truth (i + length xs) ys
found_behind i [] ys h = simp unary_clauses refl
found_behind i (true ∷ xs) ys h = absurd (none-some i (sym h))
found_behind i (false ∷ xs) ys h =
    let further : i + 1 + length xs ≡ i + suc (length xs) = omega arith in
    found_behind (i + 1) xs ys h ∙ ap (λ n. position_from is_truth n ys) further

-- each instruction is judged once
judged_once : (code : Code) (f : FunctionCode) (at : ℕ) (ops : List Op) → length (judged code f at ops) ≡ length ops
judged_once code f at [] = refl
judged_once code f at (op ∷ ops) = ap (λ n. suc n) (judged_once code f (at + 1) ops)

one_more : (code : Code) (fs : List FunctionCode) (i : ℕ) (f : FunctionCode) → i < length fs → get_or fs i f ≡ f → judged_all code (drop i fs) ≡ judged code f 0 f.ops ++ judged_all code (drop (i + 1) fs)
one_more code fs i f lt is =
    let next : suc i ≡ i + 1 = omega arith in
    ap (judged_all code) (drop-cons fs i f lt ∙ ap (λ g. g ∷ drop (suc i) fs) is ∙ ap (λ n. f ∷ drop n fs) next)

-- a function has the first bad instruction
pub first_here : (code : Code) (items : List FunctionCode) (i before p : ℕ) (f : FunctionCode) → items ≡ code.functions → i < length items → f ≡ get_or items i f → position_from is_truth before (judged code f 0 f.ops) ≡ Some p →
    first_bad code ≡ position_from is_truth before (judged_all code (drop i code.functions)) → first_bad code ≡ Some p
first_here code items i before p f e lt is found so_far =
    so_far ∙ ap (λ xs. position_from is_truth before (judged_all code (drop i xs))) (sym e) ∙ ap (position_from is_truth before) (one_more code items i f lt (sym is))
    ∙ found_in_front before p (judged code f 0 f.ops) (judged_all code (drop (i + 1) items)) found

-- a function has none
pub first_behind : (code : Code) (items : List FunctionCode) (i before n : ℕ) (f : FunctionCode) → items ≡ code.functions → i < length items → f ≡ get_or items i f → n ≡ length f.ops → position_from is_truth before (judged code f 0 f.ops) ≡ None →
    first_bad code ≡ position_from is_truth before (judged_all code (drop i code.functions)) → first_bad code ≡ position_from is_truth (before + n) (judged_all code (drop (i + 1) code.functions))
first_behind code items i before n f e lt is size none so_far =
    so_far ∙ ap (λ xs. position_from is_truth before (judged_all code (drop i xs))) (sym e) ∙ ap (position_from is_truth before) (one_more code items i f lt (sym is))
    ∙ found_behind before (judged code f 0 f.ops) (judged_all code (drop (i + 1) items)) none
    ∙ ap (λ k. position_from is_truth (before + k) (judged_all code (drop (i + 1) items))) (judged_once code f 0 f.ops ∙ sym size)
    ∙ ap (λ xs. position_from is_truth (before + n) (judged_all code (drop (i + 1) xs))) e
