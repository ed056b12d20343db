-- Signs and numbers.
use Rattle.std.proofs.Common.{◌≡◌, refl, sym, ap, ◌∙◌, ℕ, zero, suc, ◌+◌, ◌-◌, ◌*◌, ◌<◌, ◌≤◌, List, [], ◌∷◌, length, take, drop, get_or, true, false, not, ◌==◌, ◌^◌, Bool, cond, bytes_eq, Some, None, arith}
use Rattle.std.proofs.Math.Nat.{le-mul_of_pos_right}
use Rattle.std.proofs.lemmas.Slice.Eq.{bytes_eq-Decides}
use Rattle.std.proofs.lemmas.List.{length-take}
use Rattle.std.specs.List.{filter}
use Rattle.std.proofs.lemmas.List.{take_all}
use Rattle.std.proofs.lemmas.Bool.Decides.{nat_tests}
use Rattle.std.specs.Char.{digit_value}
use Rattle.std.specs.Str.Parse.{digits_value_after}
use Rattle.gd_syntax.specs.declared.token.Mark.{Mark}
use Rattle.gd_syntax.specs.declared.token.Kind.TheVariants.{Mark as Marked}
use Rattle.gd_syntax.specs.Tokens.{mark_text, signs}
use Rattle.gd_syntax.specs.Spellings.{begins, repeats, spelled, sign_at, or_else, token}
use Rattle.gd_tokens.specs.FoundParts.{begins_with}

pub sign_some : (n : ℕ) (text : List ℕ) (m : Mark) → 0 < n → spelled signs (take n text) ≡ Some m → sign_at n text ≡ token (Marked m) (length (mark_text m))
unfolding sign_at
sign_some zero text m some e = absurd (omega arith)
sign_some (suc n) text m some e = ap (λ o. or_else o (sign_at n text)) e

pub sign_none : (n : ℕ) (text : List ℕ) → 0 < n → spelled signs (take n text) ≡ None → sign_at (n - 1) text ≡ sign_at n text
unfolding sign_at
sign_none zero text some e = absurd (omega arith)
sign_none (suc n) text some e = let is : suc n - 1 ≡ n = omega arith in ap (λ k. sign_at k text) is ∙ sym (ap (λ o. or_else o (sign_at n text)) e)

-- a number only grows with its digits
pub value_grows : (radix value : ℕ) (digits : List ℕ) → 1 ≤ radix → value ≤ digits_value_after radix value digits
value_grows radix value [] some = omega arith
value_grows radix value (c ∷ digits) some =
    let more : value ≤ value * radix = le-mul_of_pos_right value some in
    let rest = value_grows radix (value * radix + digit_value c) digits some in
    omega (arith, more, rest)

-- where a digit makes the number too large, it stays so
pub too_large : (radix value c : ℕ) (rest : List ℕ) → 1 ≤ radix → 1 ≤ length rest → c ≡ get_or rest 0 c → (c ≡ 95 → ⊥) → ¬ (value * radix + digit_value c < 2 ^ 63) → 2 ^ 63 ≤ digits_value_after radix value (filter (λ d. not (d == 95)) rest)
too_large radix value c [] some one is other large = absurd (omega arith)
too_large radix value c (d ∷ rest) some one is other large =
    let test : (d == 95) ≡ false = grind (arith, nat_tests) in
    let grows = value_grows radix (value * radix + digit_value d) (filter (λ d. not (d == 95)) rest) some in
    let same : value * radix + digit_value c ≡ value * radix + digit_value d = ap (λ k. value * radix + digit_value k) is in
    rw test (omega (arith, grows, same, large))

pub repeats_one : (quote c n : ℕ) (text : List ℕ) → 0 < n → c ≡ quote → repeats quote n (c ∷ text) ≡ repeats quote (n - 1) text
repeats_one quote c zero text some is = absurd (omega arith)
repeats_one quote c (suc n) text some is =
    let same : (c == quote) ≡ true = grind (arith, nat_tests) in
    let less : suc n - 1 ≡ n = omega arith in
    rw (same, less) refl

pub repeats_none : (quote c n : ℕ) (text : List ℕ) → 0 < n → ¬ (c ≡ quote) → repeats quote n (c ∷ text) ≡ false
repeats_none quote c zero text some is = absurd (omega arith)
repeats_none quote c (suc n) text some is =
    let other : (c == quote) ≡ false = grind (arith, nat_tests) in
    rw other refl

pub repeats_nil : (quote n : ℕ) → 0 < n → repeats quote n [] ≡ false
repeats_nil quote zero some = absurd (omega arith)
repeats_nil quote (suc n) some = refl

pub repeats_turn : (quote c n : ℕ) (rest : List ℕ) → 0 < n → 1 ≤ length rest → c ≡ get_or rest 0 c → c ≡ quote → repeats quote (n - 1) (take (length rest - 1) (drop 1 rest)) ≡ repeats quote n rest
repeats_turn quote c n [] some one is same = absurd (omega arith)
repeats_turn quote c n (d ∷ rest) some one is same =
    let e : d ≡ quote = sym is ∙ same in
    let whole : take (length (d ∷ rest) - 1) rest ≡ rest = take_all (length (d ∷ rest) - 1) rest (omega arith) in
    ap (repeats quote (n - 1)) whole ∙ sym (repeats_one quote d n rest some e)

pub turn_length : (rest : List ℕ) → 1 ≤ length rest → length (take (length rest - 1) (drop 1 rest)) + 1 ≡ length rest
turn_length [] one = absurd (omega arith)
turn_length (d ∷ rest) one = ap (λ l. length l + 1) (take_all (length (d ∷ rest) - 1) rest (omega arith)) ∙ omega arith

spelled_turn : (x : Mark) (marks : List Mark) (text : List ℕ) (m : Mark) (b : Bool) → bytes_eq (mark_text x) text ≡ b → cond b (Some x) (spelled marks text) ≡ Some m → (spelled marks text ≡ Some m → mark_text m ≡ text) → mark_text m ≡ text
spelled_turn x marks text m true is e others = let same : x ≡ m = cc in ap mark_text (sym same) ∙ (bytes_eq-Decides (mark_text x) text).0 is
spelled_turn x marks text m false is e others = others e

-- a mark that is found is spelled so
pub spelled_is : (marks : List Mark) (text : List ℕ) (m : Mark) → spelled marks text ≡ Some m → mark_text m ≡ text
unfolding spelled
spelled_is [] text m e = absurd (cc)
spelled_is (x ∷ marks) text m e = spelled_turn x marks text m (bytes_eq (mark_text x) text) refl e (spelled_is marks text m)

pub front_fits : (n : ℕ) (text word : List ℕ) → word ≡ take n text → length word ≤ length text
front_fits n text word is = omega (arith, ap length is, length-take n text)

-- a sign that begins otherwise is not spelled so
other_first : (word : List ℕ) (c : ℕ) (text : List ℕ) → begins (λ d. d == c) word ≡ false → bytes_eq word (c ∷ text) ≡ false
other_first [] c text other = refl
other_first (d ∷ word) c text other = rw other refl

kept_turn : (x : Mark) (marks : List Mark) (c : ℕ) (text : List ℕ) (b : Bool) → begins_with c x ≡ b → spelled (filter (begins_with c) marks) (c ∷ text) ≡ spelled marks (c ∷ text) → spelled (cond b (x ∷ filter (begins_with c) marks) (filter (begins_with c) marks)) (c ∷ text) ≡ spelled (x ∷ marks) (c ∷ text)
unfolding spelled
kept_turn x marks c text true is rest = rw rest refl
kept_turn x marks c text false is rest = rw (other_first (mark_text x) c text is) rest

-- the signs that begin as the text does are those that may be spelled so
pub kept : (marks : List Mark) (c : ℕ) (text : List ℕ) → spelled (filter (begins_with c) marks) (c ∷ text) ≡ spelled marks (c ∷ text)
unfolding spelled
kept [] c text = refl
kept (x ∷ marks) c text = kept_turn x marks c text (begins_with c x) refl (kept marks c text)

pub kept_front : (listed : List Mark) (text : List ℕ) (c n : ℕ) → 0 < n → 1 ≤ length text → c ≡ get_or text 0 c → listed ≡ filter (begins_with c) signs → spelled listed (take n text) ≡ spelled signs (take n text)
kept_front listed text c zero some one first is = absurd (omega arith)
kept_front listed [] c (suc n) some one first is = absurd (omega arith)
kept_front listed (d ∷ text) c (suc n) some one first is = ap (λ s. spelled s (d ∷ take n text)) (is ∙ ap (λ e. filter (begins_with e) signs) first) ∙ kept signs d (take n text)

pub kept_word : (some marks : List Mark) (word : List ℕ) (c : ℕ) → 1 ≤ length word → c ≡ get_or word 0 c → some ≡ filter (begins_with c) marks → spelled some word ≡ spelled marks word
kept_word some marks [] c one first is = absurd (omega arith)
kept_word some marks (d ∷ word) c one first is = ap (λ s. spelled s (d ∷ word)) (is ∙ ap (λ e. filter (begins_with e) marks) first) ∙ kept marks d word
