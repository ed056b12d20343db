-- What the part in front does to the name in a text, and a character to the header.
use Rattle.std.proofs.Common.{◌≡◌, refl, sym, ap, ◌∙◌, ℕ, zero, suc, ◌-◌, ◌≤◌, ◌==◌, Bool, true, false, not, ◌&&◌, List, [], ◌∷◌, length, take, drop, codes, None, Option, arith}
use Rattle.gd_syntax.specs.declared.fault.Place.{Place}
use Rattle.gd_syntax.specs.Layout.{past, past_all}
use Rattle.gd_syntax.specs.Header.{Global, Part, passed, keyword, unended, part_at, name_in, name_behind, name_from, header_len, is_header_line}

-- the characters that are left of a part
left : (n : ℕ) (place : Place) (text : List ℕ) → name_from n place text ≡ name_from 0 (past_all place (take n text)) (drop n text)
unfolding name_from
left zero place text = refl
left (suc n) place [] = refl
left (suc n) place (c ∷ text) = left n (past place c) text

behind : (n : ℕ) (place : Place) (c : ℕ) (text : List ℕ) → 1 ≤ n → name_from (n - 1) (past place c) text ≡ name_from 0 (past_all place (take n (c ∷ text))) (drop n (c ∷ text))
behind zero place c text some = absurd (omega arith)
behind (suc n) place c text some = ap (λ k. name_from k (past place c) text) (omega arith) ∙ left n (past place c) text

-- the name behind a part
abbrev pub name_after : Part → Place → List ℕ → Option Global
name_after (passed n) place text = name_from 0 (past_all place (take n text)) (drop n text)
name_after keyword place text = name_behind (past_all place (take (length (codes "class_name")) text)) (drop (length (codes "class_name")) text)
name_after unended place text = None

abbrev pub size : Part → ℕ
size (passed n) = n
size keyword = 1
size unended = 1

after : (part : Part) (place : Place) (c : ℕ) (text : List ℕ) → 1 ≤ size part → name_in part place (c ∷ text) (λ n. name_from n (past place c) text) ≡ name_after part place (c ∷ text)
after (passed n) place c text some = behind n place c text some
after keyword place c text some = refl
after unended place c text some = refl

pub turn : (place : Place) (text : List ℕ) (part : Part) → 1 ≤ length text → part_at text ≡ part → 1 ≤ size part → name_from 0 place text ≡ name_after part place text
unfolding name_from
turn place [] part some is big = absurd (omega arith)
turn place (c ∷ text) part some is big = rw is (after part place c text big)

pub at_end : (place : Place) (text : List ℕ) → length text ≡ 0 → name_from 0 place text ≡ None
unfolding name_from
at_end place [] none = refl
at_end place (c ∷ text) none = absurd (omega arith)

-- A front of the header was passed: what is left of the header ends where the header does, in front of the same text.
pub record IsWithin (first : Place) (text : List ℕ) (starts : Bool) (place : Place) (rest : List ℕ) : Type 0 where
  pub ends_at : past_all place (take (header_len starts rest) rest) ≡ past_all first (take (header_len true text) text)
  pub before : drop (header_len starts rest) rest ≡ drop (header_len true text) text

pub pass_one : (first : Place) (text : List ℕ) (starts : Bool) (place : Place) (rest after : List ℕ) (c : ℕ) → rest ≡ c ∷ after → (starts && not (is_header_line rest)) ≡ false
    → IsWithin first text starts place rest → IsWithin first text (c == 10) (past place c) after
unfolding header_len
pass_one first text starts place rest after c is header within =
    let len : header_len starts (c ∷ after) ≡ suc (header_len (c == 10) after) = let test : (starts && not (is_header_line (c ∷ after))) ≡ false = ap (λ r. starts && not (is_header_line r)) (sym is) ∙ header in rw test refl in
    let size : header_len starts rest ≡ suc (header_len (c == 10) after) = ap (header_len starts) is ∙ len in
    record {
      ends_at = sym (rw (size, is) refl) ∙ within.ends_at;
      before = sym (rw (size, is) refl) ∙ within.before;
    }

-- where the header ends
pub ends : (first : Place) (text : List ℕ) (starts : Bool) (place : Place) (rest : List ℕ) → (starts && not (is_header_line rest)) ≡ true → IsWithin first text starts place rest
    → (rest ≡ drop (header_len true text) text) × (place ≡ past_all first (take (header_len true text) text))
unfolding header_len
ends first text starts place [] stops within = (within.before, within.ends_at)
ends first text starts place (c ∷ rest) stops within =
    let none : header_len starts (c ∷ rest) ≡ 0 = rw stops refl in
    (sym (rw none refl) ∙ within.before, sym (rw none refl) ∙ within.ends_at)

pub ends_at_end : (first : Place) (text : List ℕ) (starts : Bool) (place : Place) (rest : List ℕ) → rest ≡ [] → IsWithin first text starts place rest
    → (rest ≡ drop (header_len true text) text) × (place ≡ past_all first (take (header_len true text) text))
unfolding header_len
ends_at_end first text starts place [] is within = (within.before, within.ends_at)
ends_at_end first text starts place (c ∷ rest) is within = absurd (cc)

pub pass_skipped : (first : Place) (text : List ℕ) (starts : Bool) (place next : Place) (rest after now : List ℕ) (c : ℕ) → rest ≡ c ∷ after → (starts && not (is_header_line rest)) ≡ false
    → now ≡ drop 1 rest → next ≡ past_all place (take 1 rest) → IsWithin first text starts place rest → IsWithin first text (c == 10) next now
pass_skipped first text starts place next rest after now c is header behind at within =
    let same : now ≡ after = behind ∙ ap (drop 1) is in
    let there : next ≡ past place c = at ∙ ap (λ r. past_all place (take 1 r)) is in
    rw (same, there) (pass_one first text starts place rest after c is header within)
