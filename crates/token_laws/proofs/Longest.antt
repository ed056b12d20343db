-- What is read is the longest front of the text that is spelled so.
use Rattle.std.proofs.Common.{◌≡◌, refl, ℕ, zero, suc, ◌+◌, ◌<◌, ◌≤◌, Bool, true, false, cond, List, [], ◌∷◌, length, take, arith}
use Rattle.std.specs.Prelude.{◌&&◌, ◌||◌, ◌==◌, if◌then◌else◌}
use Rattle.std.specs.List.{list_all, prefix_len}
use Rattle.gd_syntax.specs.Spellings.{begins, is_digit, digits_len}
use Rattle.gd_syntax.specs.Longest.{IsLongest, are_digits}

run_longer : (p : ℕ → Bool) (c n : ℕ) (text : List ℕ) → p c ≡ true → ((k : ℕ) → n < k → k ≤ length text → list_all p (take k text) ≡ false) → (k : ℕ) → suc n < k → k ≤ length (c ∷ text) → list_all p (take k (c ∷ text)) ≡ false
run_longer p c n text is rest zero more fits = absurd (omega arith)
run_longer p c n text is rest (suc k) more fits = rw is (rest k (omega arith) (omega arith))

run_over : (p : ℕ → Bool) (c : ℕ) (text : List ℕ) → p c ≡ false → (k : ℕ) → 0 < k → list_all p (take k (c ∷ text)) ≡ false
run_over p c text is zero more = absurd (omega arith)
run_over p c text is (suc k) more = rw is refl

run_turn : (p : ℕ → Bool) (c n : ℕ) (text : List ℕ) (b : Bool) → p c ≡ b → IsLongest (list_all p) text n → IsLongest (list_all p) (c ∷ text) (cond b (1 + n) 0)
run_turn p c n text true is rest =
    let e : 1 + n ≡ suc n = omega arith in
    rw e (record { fits = omega (arith, rest.fits); spelled = rw is rest.spelled; longest = run_longer p c n text is rest.longest })
run_turn p c n text false is rest = record { fits = omega arith; spelled = refl; longest = λ k more fits. run_over p c text is k more }

pub longest_run : (p : ℕ → Bool) (text : List ℕ) → IsLongest (list_all p) text (prefix_len p text)
longest_run p [] = record { fits = omega arith; spelled = refl; longest = λ k more fits. absurd (omega (arith, more, fits)) }
longest_run p (c ∷ text) = run_turn p c (prefix_len p text) text (p c) refl (longest_run p text)

or_nothing : (b : Bool) → (b || false) ≡ true → b ≡ true
or_nothing true e = refl
or_nothing false e = absurd (cc)

and_nothing : (b : Bool) → (b && false) ≡ false
and_nothing true = refl
and_nothing false = refl

digit_spelled : (radix c : ℕ) (text : List ℕ) (b digit line next : Bool) → is_digit radix c ≡ digit → (b && c == 95) ≡ line → (b || digit) ≡ true
    → are_digits radix true (take (digits_len radix true text) text) ≡ true → (next ≡ true → are_digits radix false (take (digits_len radix false text) text) ≡ true)
    → are_digits radix b (take (if digit then suc (digits_len radix true text) else if line && next then suc (digits_len radix false text) else 0) (c ∷ text)) ≡ true
digit_spelled radix c text b true line next is under some more behind = rw is more
digit_spelled radix c text b false true true is under some more behind = rw (is, under) (behind refl)
digit_spelled radix c text b false true false is under some more behind = or_nothing b some
digit_spelled radix c text b false false next is under some more behind = or_nothing b some

digits_spelled : (radix : ℕ) (b : Bool) (text : List ℕ) → (b || begins (is_digit radix) text) ≡ true → are_digits radix b (take (digits_len radix b text) text) ≡ true
unfolding digits_len
digits_spelled radix b [] some = or_nothing b some
digits_spelled radix b (c ∷ text) some =
    digit_spelled radix c text b (is_digit radix c) (b && c == 95) (begins (is_digit radix) text) refl refl some (digits_spelled radix true text refl) (λ next. digits_spelled radix false text next)

fit_turn : (radix : ℕ) (text : List ℕ) (digit line : Bool) → digits_len radix true text ≤ length text → digits_len radix false text ≤ length text
    → (if digit then suc (digits_len radix true text) else if line then suc (digits_len radix false text) else 0) ≤ suc (length text)
fit_turn radix text true line more behind = omega arith
fit_turn radix text false true more behind = omega arith
fit_turn radix text false false more behind = omega arith

digits_fit : (radix : ℕ) (b : Bool) (text : List ℕ) → digits_len radix b text ≤ length text
unfolding digits_len
digits_fit radix b [] = omega arith
digits_fit radix b (c ∷ text) = fit_turn radix text (is_digit radix c) ((b && c == 95) && begins (is_digit radix) text) (digits_fit radix true text) (digits_fit radix false text)

-- behind `_` a digit comes
no_digit : (radix k : ℕ) (text : List ℕ) → begins (is_digit radix) text ≡ false → are_digits radix false (take k text) ≡ false
no_digit radix zero text none = refl
no_digit radix (suc k) [] none = refl
no_digit radix (suc k) (d ∷ text) none = rw none refl

digit_longest : (radix c k : ℕ) (text : List ℕ) (b digit line next : Bool) → is_digit radix c ≡ digit → (b && c == 95) ≡ line → begins (is_digit radix) text ≡ next
    → ((k : ℕ) → digits_len radix true text < k → k ≤ length text → are_digits radix true (take k text) ≡ false)
    → ((k : ℕ) → digits_len radix false text < k → k ≤ length text → are_digits radix false (take k text) ≡ false)
    → (if digit then suc (digits_len radix true text) else if line && next then suc (digits_len radix false text) else 0) < suc k → suc k ≤ length (c ∷ text) → are_digits radix b (take (suc k) (c ∷ text)) ≡ false
digit_longest radix c k text b true line next is under begin more behind less fits = rw is (more k (omega arith) (omega arith))
digit_longest radix c k text b false true true is under begin more behind less fits = rw (is, under) (behind k (omega arith) (omega arith))
digit_longest radix c k text b false true false is under begin more behind less fits = rw (is, under) (no_digit radix k text begin)
digit_longest radix c k text b false false next is under begin more behind less fits = rw (is, under) refl

digits_longest : (radix : ℕ) (b : Bool) (text : List ℕ) (k : ℕ) → digits_len radix b text < k → k ≤ length text → are_digits radix b (take k text) ≡ false
unfolding digits_len
digits_longest radix b [] k less fits = absurd (omega (arith, less, fits))
digits_longest radix b (c ∷ text) zero less fits = absurd (omega arith)
digits_longest radix b (c ∷ text) (suc k) less fits =
    digit_longest radix c k text b (is_digit radix c) (b && c == 95) (begins (is_digit radix) text) refl refl refl (digits_longest radix true text) (digits_longest radix false text) less fits

pub longest_digits : (radix : ℕ) (text : List ℕ) → begins (is_digit radix) text ≡ true → IsLongest (are_digits radix false) text (digits_len radix false text)
longest_digits radix text some = record { fits = digits_fit radix false text; spelled = digits_spelled radix false text some; longest = digits_longest radix false text }
