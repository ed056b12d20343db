-- What the scanner reads in one piece, the header passes.
use Rattle.std.proofs.Common.{◌≡◌, refl, sym, ap, ◌∙◌, subst, ℕ, zero, suc, ◌+◌, ◌-◌, ◌<◌, ◌≤◌, ◌==◌, Bool, true, false, cond, not, ◌&&◌, ◌||◌, List, [], ◌∷◌, ◌++◌, length, take, drop, arith}
use Rattle.std.specs.Prelude.{nat_lt}
use Rattle.std.specs.List.{list_all, prefix_len}
use Rattle.std.specs.Char.{is_ascii_alphanumeric}
use Rattle.std.proofs.lemmas.Bool.{and_parts, and_from}
use Rattle.std.proofs.lemmas.Bool.Decides.{nat_tests}
use Rattle.std.proofs.lemmas.List.{length-take, take-append-drop}
use Rattle.unicode_ident.specs.Ident.{is_xid_start, is_xid_continue}
use Rattle.unicode_ident.proofs.IdentLemmas.{is_xid_start-ascii, is_xid_continue-ascii}
use Rattle.gd_syntax.specs.declared.fault.Place.{Place}
use Rattle.std.proofs.lemmas.List.Sums.{fold-append}
use Rattle.gd_syntax.specs.Spellings.{begins, is_quote, is_digit}
use Rattle.gd_syntax.specs.Layout.{past, past_all}
use Rattle.gd_syntax.specs.Header.{passed, keyword, is_class_name, word_of, part_at, name_from}

-- the header passes the front of a text
abbrev pub Passes : List ℕ → List ℕ → Type 0
Passes u v = (place : Place) → name_from 0 place (u ++ v) ≡ name_from 0 (past_all place u) v

-- it passes so many characters
abbrev pub Passed : ℕ → List ℕ → Type 0
Passed n text = Passes (take n text) (drop n text)

-- what is left of a part
left : (n : ℕ) (place : Place) (text : List ℕ) → name_from n place text ≡ name_from 0 (past_all place (take n text)) (drop n text)
unfolding name_from
left zero place text = refl
left (suc n) place [] = refl
left (suc n) place (c ∷ text) = left n (past place c) text

part_passes : (c n : ℕ) (text : List ℕ) (place : Place) → part_at (c ∷ text) ≡ passed (suc n) → name_from 0 place (c ∷ text) ≡ name_from 0 (past_all place (c ∷ take n text)) (drop n text)
unfolding name_from
part_passes c n text place is = rw is (ap (λ k. name_from k (past place c) text) (omega arith) ∙ left n (past place c) text)

pub size_passes : (c n : ℕ) (text : List ℕ) → part_at (c ∷ text) ≡ passed (suc n) → Passed (suc n) (c ∷ text)
size_passes c n text is place = ap (λ t. name_from 0 place (c ∷ t)) (take-append-drop n text) ∙ part_passes c n text place is

-- ---- single characters

-- a character that is no part of a comment, a string or a word
abbrev pub is_plain : ℕ → Bool
is_plain c = not (c == 35) && (not (is_quote c) && not (is_xid_continue c))

plain_case : (c : ℕ) (text : List ℕ) (a b d : Bool) → (c == 35) ≡ a → is_quote c ≡ b → is_xid_continue c ≡ d → (not a && (not b && not d)) ≡ true → part_at (c ∷ text) ≡ passed 1
unfolding part_at
plain_case c text false false false x y z h = rw (x, y, z) refl
plain_case c text true b d x y z h = absurd (cc)
plain_case c text false true d x y z h = absurd (cc)
plain_case c text false false true x y z h = absurd (cc)

pub plain_passes : (u v : List ℕ) → list_all is_plain u ≡ true → Passes u v
unfolding name_from
plain_passes [] v all place = refl
plain_passes (c ∷ u) v all place =
    let both = and_parts (is_plain c) (list_all is_plain u) all in
    rw (plain_case c (u ++ v) (c == 35) (is_quote c) (is_xid_continue c) refl refl refl both.0) (plain_passes u v both.1 (past place c))

-- such an ASCII character
abbrev pub is_sign_char : ℕ → Bool
is_sign_char c = (nat_lt c 128 && not (c == 35)) && (not (is_quote c) && not (is_ascii_alphanumeric c || c == 95))

pub sign_plain : (c : ℕ) → is_sign_char c ≡ true → is_plain c ≡ true
sign_plain c is =
    let both = and_parts (nat_lt c 128 && not (c == 35)) (not (is_quote c) && not (is_ascii_alphanumeric c || c == 95)) is in
    let first = and_parts (nat_lt c 128) (not (c == 35)) both.0 in
    let less : c < 128 = (let e = first.0 in grind (arith, nat_tests)) in
    and_from (not (c == 35)) (not (is_quote c) && not (is_xid_continue c)) first.1 (subst (λ x. (not (is_quote c) && not x) ≡ true) (sym (is_xid_continue-ascii c less)) both.1)

pub signs_plain : (u : List ℕ) → list_all is_sign_char u ≡ true → list_all is_plain u ≡ true
signs_plain [] all = refl
signs_plain (c ∷ u) all = let both = and_parts (is_sign_char c) (list_all is_sign_char u) all in and_from (is_plain c) (list_all is_plain u) (sign_plain c both.0) (signs_plain u both.1)

-- ---- words

abbrev run : List ℕ → ℕ
run text = prefix_len is_xid_continue text

run_case : (c : ℕ) (text : List ℕ) (b : Bool) → prefix_len is_xid_continue text ≤ length text → cond b (1 + prefix_len is_xid_continue text) 0 ≤ suc (length text)
run_case c text true h = omega (arith, h)
run_case c text false h = omega arith

pub run_fits : (text : List ℕ) → run text ≤ length text
run_fits [] = omega arith
run_fits (c ∷ text) = run_case c text (is_xid_continue c) (run_fits text)

pub other_word : (word : List ℕ) (b : Bool) → is_class_name word ≡ b → b ≡ false → cond b keyword (passed (length word)) ≡ passed (length word)
other_word word true e is = absurd (cc)
other_word word false e is = refl

pub chosen : {A : Type 0} (b : Bool) (x y : A) → b ≡ true → cond b x y ≡ x
chosen true x y e = refl
chosen false x y e = absurd (cc)

pub passed_over : {A : Type 0} (b : Bool) (x y : A) → b ≡ false → cond b x y ≡ y
passed_over true x y e = absurd (cc)
passed_over false x y e = refl

word_case : (c : ℕ) (text : List ℕ) → (c == 35) ≡ false → is_quote c ≡ false → is_xid_continue c ≡ true → is_class_name (word_of (c ∷ text)) ≡ false → part_at (c ∷ text) ≡ passed (length (word_of (c ∷ text)))
unfolding part_at
word_case c text hash quote xid other =
    passed_over (c == 35) _ _ hash ∙ passed_over (is_quote c) _ _ quote ∙ chosen (is_xid_continue c) _ _ xid ∙ other_word (word_of (c ∷ text)) (is_class_name (word_of (c ∷ text))) refl other

-- a word that is not `class_name`
pub word_passes : (c : ℕ) (text : List ℕ) → (c == 35) ≡ false → is_quote c ≡ false → is_xid_continue c ≡ true → is_class_name (word_of (c ∷ text)) ≡ false → Passed (run (c ∷ text)) (c ∷ text)
word_passes c text hash quote xid other =
    let n : run (c ∷ text) ≡ suc (run text) = rw xid (omega arith) in
    let size : length (word_of (c ∷ text)) ≡ suc (run text) = length-take (run (c ∷ text)) (c ∷ text) ∙ omega (arith, n, run_fits text) in
    let is : part_at (c ∷ text) ≡ passed (suc (run text)) = word_case c text hash quote xid other ∙ ap passed size in
    subst (λ k. Passed k (c ∷ text)) (sym n) (size_passes c (run text) text is)

-- ---- numbers

run_over : (u v : List ℕ) → list_all is_xid_continue u ≡ true → run (u ++ v) ≡ length u + run v
run_over [] v all = omega arith
run_over (c ∷ u) v all =
    let both = and_parts (is_xid_continue c) (list_all is_xid_continue u) all in
    let more = run_over u v both.1 in
    rw both.0 (omega (arith, more))

-- a character that is no `c` begins no `class_name`
other_begins : (c : ℕ) (text : List ℕ) → (c == 99) ≡ false → is_class_name (c ∷ text) ≡ false
other_begins c text other = rw other refl

pub not_ninety_nine : (d : ℕ) (b : Bool) → is_xid_start d ≡ false → (d == 99) ≡ b → b ≡ false
not_ninety_nine d false start is = refl
not_ninety_nine d true start is = absurd (
    let e : d ≡ 99 = grind (arith, nat_tests) in
    let letter : is_xid_start 99 ≡ true = is_xid_start-ascii 99 (omega arith) in
    let h : is_xid_start d ≡ true = ap is_xid_start e ∙ letter in
    cc
    )

pub ascii_not : (d k : ℕ) → k < 128 → (is_ascii_alphanumeric k || k == 95) ≡ false → is_xid_continue d ≡ true → (b : Bool) → (d == k) ≡ b → b ≡ false
ascii_not d k less none xid false is = refl
ascii_not d k less none xid true is = absurd (
    let e : d ≡ k = grind (arith, nat_tests) in
    let other : is_xid_continue d ≡ false = ap is_xid_continue e ∙ is_xid_continue-ascii k less ∙ none in
    cc
    )

pub quote_not : (d : ℕ) → is_xid_continue d ≡ true → is_quote d ≡ false
quote_not d xid = rw (ascii_not d 34 (omega arith) refl xid (d == 34) refl) (ascii_not d 39 (omega arith) refl xid (d == 39) refl)

pub past_on : (place : Place) (u v : List ℕ) → past_all place (u ++ v) ≡ past_all (past_all place u) v
past_on place u v = fold-append past place u v

take_over : (u v : List ℕ) (k : ℕ) → take (length u + k) (u ++ v) ≡ u ++ take k v
take_over [] v k = ap (λ n. take n v) (omega arith)
take_over (c ∷ u) v k = let n : length (c ∷ u) + k ≡ suc (length u + k) = omega arith in rw n (ap (λ t. c ∷ t) (take_over u v k))

drop_over : (u v : List ℕ) (k : ℕ) → drop (length u + k) (u ++ v) ≡ drop k v
drop_over [] v k = ap (λ n. drop n v) (omega arith)
drop_over (c ∷ u) v k = let n : length (c ∷ u) + k ≡ suc (length u + k) = omega arith in rw n (drop_over u v k)

-- the word that goes on behind a number is passed with it, or behind it
rest_passes : (d : ℕ) (w : List ℕ) (b : Bool) → is_xid_continue d ≡ b → is_xid_start d ≡ false → Passed (run (d ∷ w)) (d ∷ w)
rest_passes d w false is start place = let none : run (d ∷ w) ≡ 0 = rw is refl in rw none refl
rest_passes d w true is start place =
    let other = not_ninety_nine d (d == 99) start refl in
    let word : word_of (d ∷ w) ≡ d ∷ take (run w) w = let n : run (d ∷ w) ≡ suc (run w) = rw is (omega arith) in ap (λ k. take k (d ∷ w)) n in
    word_passes d w (ascii_not d 35 (omega arith) refl is (d == 35) refl) (quote_not d is) is (ap is_class_name word ∙ other_begins d (take (run w) w) other) place

behind_passes : (v : List ℕ) → begins is_xid_start v ≡ false → Passed (run v) v
behind_passes [] start place = refl
behind_passes (d ∷ w) start place = rest_passes d w (is_xid_continue d) refl start place

pub number_run : (c : ℕ) (u v : List ℕ) → list_all is_xid_continue (c ∷ u) ≡ true → (c == 99) ≡ false → begins is_xid_start v ≡ false → Passes (c ∷ u) v
number_run c u v all other start place =
    let xid = (and_parts (is_xid_continue c) (list_all is_xid_continue u) all).0 in
    let text = u ++ v in
    let n : run (c ∷ text) ≡ length (c ∷ u) + run v = run_over (c ∷ u) v all in
    let word : word_of (c ∷ text) ≡ c ∷ take (run text) text = let k : run (c ∷ text) ≡ suc (run text) = rw xid (omega arith) in ap (λ k. take k (c ∷ text)) k in
    let whole = word_passes c text (ascii_not c 35 (omega arith) refl xid (c == 35) refl) (quote_not c xid) xid (ap is_class_name word ∙ other_begins c (take (run text) text) other) place in
    let front : take (run (c ∷ text)) (c ∷ text) ≡ (c ∷ u) ++ take (run v) v = ap (λ k. take k (c ∷ text)) n ∙ take_over (c ∷ u) v (run v) in
    let rest : drop (run (c ∷ text)) (c ∷ text) ≡ drop (run v) v = ap (λ k. drop k (c ∷ text)) n ∙ drop_over (c ∷ u) v (run v) in
    let here = past_all place (c ∷ u) in
    ap (name_from 0 place) (sym (take-append-drop (run (c ∷ text)) (c ∷ text))) ∙ whole
    ∙ ap (λ t. name_from 0 (past_all place t) (drop (run (c ∷ text)) (c ∷ text))) front
    ∙ ap (name_from 0 (past_all place ((c ∷ u) ++ take (run v) v))) rest
    ∙ ap (λ p. name_from 0 p (drop (run v) v)) (past_on place (c ∷ u) (take (run v) v))
    ∙ sym (behind_passes v start here)
    ∙ ap (name_from 0 here) (take-append-drop (run v) v)

digit_case : (c radix : ℕ) → radix ≤ 16 → (a b d e f g : Bool) → nat_lt c 48 ≡ a → nat_lt c 58 ≡ b → nat_lt c 65 ≡ d → nat_lt c 91 ≡ e → nat_lt c 97 ≡ f → nat_lt c 123 ≡ g
    → nat_lt (cond a 36 (cond b (c - 48) (cond d 36 (cond e (c - 55) (cond f 36 (cond g (c - 87) 36)))))) radix ≡ true → (c < 128) × ((is_ascii_alphanumeric c || c == 95) ≡ true)
digit_case c radix few true b d e f g ia ib id ie ig ih h = absurd (grind (arith, nat_tests))
digit_case c radix few false true d e f g ia ib id ie ig ih h = (grind (arith, nat_tests), grind (arith, nat_tests))
digit_case c radix few false false true e f g ia ib id ie ig ih h = absurd (grind (arith, nat_tests))
digit_case c radix few false false false true f g ia ib id ie ig ih h = (grind (arith, nat_tests), grind (arith, nat_tests))
digit_case c radix few false false false false true g ia ib id ie ig ih h = absurd (grind (arith, nat_tests))
digit_case c radix few false false false false false true ia ib id ie ig ih h = (grind (arith, nat_tests), grind (arith, nat_tests))
digit_case c radix few false false false false false false ia ib id ie ig ih h = absurd (grind (arith, nat_tests))

pub digit_xid : (c radix : ℕ) → radix ≤ 16 → is_digit radix c ≡ true → is_xid_continue c ≡ true
digit_xid c radix few h =
    let is = digit_case c radix few (nat_lt c 48) (nat_lt c 58) (nat_lt c 65) (nat_lt c 91) (nat_lt c 97) (nat_lt c 123) refl refl refl refl refl refl h in
    is_xid_continue-ascii c is.0 ∙ is.1
