-- How a string goes on.
use Rattle.std.proofs.Common.{◌≡◌, refl, sym, ap, ◌∙◌, ℕ, zero, suc, ◌+◌, ◌-◌, ◌≤◌, List, [], ◌∷◌, ◌++◌, length, drop, true, false, Some, None, append-nil, append_assoc, arith}
use Rattle.gd_syntax.specs.Spellings.{Contents, closed, broken, endless, one_on, behind, contents, piece_at, repeats, Piece}

-- a string that so many more characters stand in front of
abbrev pub further : ℕ → Contents → Contents
further n (closed text m) = closed text (n + m)
further n (broken m) = broken (n + m)
further n endless = endless

further_zero : (c : Contents) → further 0 c ≡ c
further_zero (closed text m) = ap (closed text) (omega arith)
further_zero (broken m) = ap broken (omega arith)
further_zero endless = refl

further_one : (n : ℕ) (c : Contents) → one_on (further n c) ≡ further (suc n) c
further_one n (closed text m) = ap (closed text) (omega arith)
further_one n (broken m) = ap broken (omega arith)
further_one n endless = refl

further_more : (n m : ℕ) (front piece : List ℕ) (c : Contents) → further n (behind front (behind piece (further m c))) ≡ further (n + m) (behind (front ++ piece) c)
further_more n m front piece (closed text k) = ap (λ t. closed t (n + (m + k))) (sym (append_assoc front piece text)) ∙ ap (closed ((front ++ piece) ++ text)) (omega arith)
further_more n m front piece (broken k) = ap broken (omega arith)
further_more n m front piece endless = refl

-- the characters that are left of a part
left_over : (quote count n : ℕ) (text : List ℕ) → n ≤ length text → contents quote count n text ≡ further n (contents quote count 0 (drop n text))
unfolding contents
left_over quote count zero text fits = sym (further_zero (contents quote count 0 text))
left_over quote count (suc n) [] fits = absurd (omega arith)
left_over quote count (suc n) (c ∷ text) fits = ap one_on (left_over quote count n text (omega arith)) ∙ further_one n (contents quote count 0 (drop n text))

part : (quote count : ℕ) (c : ℕ) (text : List ℕ) (piece : Piece) → repeats quote count (c ∷ text) ≡ false → piece_at (c ∷ text) ≡ Some piece → contents quote count 0 (c ∷ text) ≡ behind piece.gives (one_on (contents quote count (piece.size - 1) text))
unfolding contents
part quote count c text piece goes is = rw (goes, is) refl

-- one part further
pub part_on : (quote count n : ℕ) (front gives text : List ℕ) (size : ℕ) → repeats quote count text ≡ false → piece_at text ≡ Some (record { gives = gives; size = size }) → 1 ≤ size → size ≤ length text
    → further n (behind front (contents quote count 0 text)) ≡ further (n + size) (behind (front ++ gives) (contents quote count 0 (drop size text)))
part_on quote count n front gives [] size goes is some fits = absurd (omega arith)
part_on quote count n front gives (c ∷ text) zero goes is some fits = absurd (omega arith)
part_on quote count n front gives (c ∷ text) (suc m) goes is some fits =
    let less : suc m - 1 ≡ m = omega arith in
    let rest = contents quote count 0 (drop m text) in
    let e : contents quote count 0 (c ∷ text) ≡ behind gives (further (suc m) rest) =
    part quote count c text (record { gives = gives; size = suc m }) goes is
    ∙ ap (λ k. behind gives (one_on (contents quote count k text))) less
    ∙ ap (λ o. behind gives (one_on o)) (left_over quote count m text (omega arith))
    ∙ ap (behind gives) (further_one m rest) in
    ap (λ o. further n (behind front o)) e ∙ further_more n (suc m) front gives rest

pub closed_here : (quote count n : ℕ) (front text : List ℕ) → 1 ≤ length text → repeats quote count text ≡ true → further n (behind front (contents quote count 0 text)) ≡ closed front (n + count)
unfolding contents
closed_here quote count n front [] some is = absurd (omega arith)
closed_here quote count n front (c ∷ text) some is = rw is (ap (λ t. closed t (n + count)) (append-nil front))

pub broken_here : (quote count n : ℕ) (front text : List ℕ) → 1 ≤ length text → repeats quote count text ≡ false → piece_at text ≡ None → further n (behind front (contents quote count 0 text)) ≡ broken n
unfolding contents
broken_here quote count n front [] some goes is = absurd (omega arith)
broken_here quote count n front (c ∷ text) some goes is = rw (goes, is) (ap broken (omega arith))

pub endless_here : (quote count n : ℕ) (front text : List ℕ) → length text ≡ 0 → further n (behind front (contents quote count 0 text)) ≡ endless
unfolding contents
endless_here quote count n front [] none = refl
endless_here quote count n front (c ∷ text) none = absurd (omega arith)

pub whole_contents : (c : Contents) → further 0 (behind [] c) ≡ c
whole_contents (closed text m) = ap (closed text) (omega arith)
whole_contents (broken m) = ap broken (omega arith)
whole_contents endless = refl
