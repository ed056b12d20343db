-- Where a text first stands in another, and the parts between such places.
use Rattle.std.proofs.Common.{◌≡◌, ◌≢◌, ℕ, zero, suc, ◌+◌, ◌-◌, ◌<◌, ◌≤◌, Bool, true, false, cond, nat_eq, List, [], ◌∷◌, ◌++◌, length, take, drop, refl, sym, ap, subst, ◌∙◌, arith, rules, Option, Some, None, option_map, if◌then◌else◌, MatchOption, length-append, append_assoc, append-nil}
use Rattle.std.proofs.lemmas.Bool.{false≢true}
use Rattle.std.proofs.lemmas.Slice.Eq.{starts_is}
use Rattle.std.specs.Bool.{Decides}
use Rattle.std.specs.List.{starts_with, onto_first}
use Rattle.std.specs.Str.Pattern.{FindsText, MatchBeginsAt, LacksTextAt, SplitsAroundMatch}
use denote.Ref.{Bor}
use Rattle.variant_values.specs.StringMethods.{first_place, first_split, parts_after, parts, joined_texts, replaced}

pub nat_decides : (a b : ℕ) → Decides (nat_eq a b) (a ≡ b)
nat_decides a b = search rules

-- what `starts_with` says
pub starts-yes : (text what rest : List ℕ) → text ≡ what ++ rest → starts_with nat_eq text what ≡ true
starts-yes text what rest is = (starts_is nat_decides text what (starts_with nat_eq text what) refl).1 rest is

pub bool_cases : (b : Bool) (P : Bool → Type 0) → (b ≡ true → P true) → (b ≡ false → P false) → P b
bool_cases true P if_true if_false = if_true refl
bool_cases false P if_true if_false = if_false refl

starts-no : (text what : List ℕ) → ((rest : List ℕ) → text ≢ what ++ rest) → starts_with nat_eq text what ≡ false
starts-no text what lacks =
    let is = starts_is nat_decides text what (starts_with nat_eq text what) refl in
    bool_cases (starts_with nat_eq text what) (λ b. (b ≡ true → text ≡ what ++ drop (length what) text) → b ≡ false) (λ e t. absurd (lacks _ (t refl))) (λ e t. refl) is.0

pub place_found : (what text rest : List ℕ) (i : ℕ) → i ≤ length text → drop i text ≡ what ++ rest → ((k : ℕ) → k < i → LacksTextAt what text k) → Some i ≡ first_place what text
place_found what [] rest zero within is lacks = sym (ap (λ b. if b then Some 0 else None) (starts-yes [] what rest is))
place_found what [] rest (suc i) within is lacks = absurd (omega arith)
place_found what (b ∷ bs) rest zero within is lacks = sym (ap (λ t. if t then Some 0 else option_map (λ n. suc n) (first_place what bs)) (starts-yes (b ∷ bs) what rest is))
place_found what (b ∷ bs) rest (suc i) within is lacks =
    ap (option_map (λ n. suc n)) (place_found what bs rest i (omega arith) is (λ k below. lacks (suc k) (omega arith)))
    ∙ sym (ap (λ t. if t then Some 0 else option_map (λ n. suc n) (first_place what bs)) (starts-no (b ∷ bs) what (lacks 0 (omega arith))))

pub place_missing : (what text : List ℕ) → ((k : ℕ) → k ≤ length text → LacksTextAt what text k) → None ≡ first_place what text
place_missing what [] lacks = sym (ap (λ b. if b then Some 0 else None) (starts-no [] what (lacks 0 (omega arith))))
place_missing what (b ∷ bs) lacks =
    ap (option_map (λ n. suc n)) (place_missing what bs (λ k within. lacks (suc k) (omega arith)))
    ∙ sym (ap (λ t. if t then Some 0 else option_map (λ n. suc n) (first_place what bs)) (starts-no (b ∷ bs) what (lacks 0 (omega arith))))

-- ---- parts

pub place_or_none : (o : Option ℕ) (P : Option ℕ → Type 0) → (o ≡ None → P None) → ((k : ℕ) → o ≡ Some k → P (Some k)) → P o
place_or_none None P if_none if_some = if_none refl
place_or_none (Some k) P if_none if_some = if_some k refl

parts_skip : (by bs : List ℕ) (k : ℕ) → parts_after k by bs ≡ parts_after 0 by (drop k bs)
parts_skip by [] zero = refl
parts_skip by [] (suc k) = refl
parts_skip by (b ∷ bs) zero = refl
parts_skip by (b ∷ bs) (suc k) = parts_skip by bs k

pub parts_some : (by bs : List ℕ) (k : ℕ) → 0 < length (parts_after k by bs)
parts_some by [] zero = omega arith
parts_some by [] (suc k) = omega arith
parts_some by (b ∷ bs) zero = bool_cases (starts_with nat_eq (b ∷ bs) by) (λ t. 0 < length (if t then [] ∷ parts_after (length by - 1) by bs else onto_first b (parts_after 0 by bs))) (λ e. omega arith) (λ e. some_onto (parts_after 0 by bs)) where
  some_onto : (ps : List (List ℕ)) → 0 < length (onto_first b ps)
  some_onto [] = omega arith
  some_onto (p ∷ ps) = omega arith
parts_some by (b ∷ bs) (suc k) = parts_some by bs k

none_starts : (by : List ℕ) → 0 < length by → starts_with nat_eq [] by ≡ false
none_starts by some = starts-no [] by (λ rest e. absurd (omega (arith, ap length e, length-append by rest)))

pub parts_found : (by text : List ℕ) (i : ℕ) → 0 < length by → Some i ≡ first_place by text → parts by text ≡ take i text ∷ parts by (drop (i + length by) text)
parts_found by [] i some is = let e : Some i ≡ None = is ∙ ap (λ t. if t then Some 0 else None) (none_starts by some) in cc
parts_found by (b ∷ bs) i some is =
    bool_cases (starts_with nat_eq (b ∷ bs) by) (λ t. Some i ≡ (if t then Some 0 else option_map (λ n. suc n) (first_place by bs)) → (if t then [] ∷ parts_after (length by - 1) by bs else onto_first b (parts_after 0 by bs)) ≡ take i (b ∷ bs) ∷ parts by (drop (i + length by) (b ∷ bs)))
    (λ e at.
    let first : i ≡ 0 = cc in
    let size : 0 + length by ≡ suc (length by - 1) = omega arith in
    ap (λ ps. [] ∷ ps) (parts_skip by bs (length by - 1)) ∙ sym (ap (λ k. take k (b ∷ bs) ∷ parts by (drop (k + length by) (b ∷ bs))) first ∙ ap (λ k. [] ∷ parts by (drop k (b ∷ bs))) size))
    (λ e at. place_or_none (first_place by bs) (λ o. first_place by bs ≡ o → Some i ≡ option_map (λ n. suc n) o → onto_first b (parts_after 0 by bs) ≡ take i (b ∷ bs) ∷ parts by (drop (i + length by) (b ∷ bs)))
    (λ gone o later. let no : Some i ≡ None = later in cc)
    (λ k there o later.
    let next : i ≡ suc k = cc in
    let size : suc k + length by ≡ suc (k + length by) = omega arith in
    ap (onto_first b) (parts_found by bs k some (sym there)) ∙ sym (ap (λ n. take n (b ∷ bs) ∷ parts by (drop (n + length by) (b ∷ bs))) next ∙ ap (λ n. (b ∷ take k bs) ∷ parts by (drop n (b ∷ bs))) size))
    refl at)
    is

pub parts_missing : (by text : List ℕ) → None ≡ first_place by text → parts by text ≡ text ∷ []
parts_missing by [] is = refl
parts_missing by (b ∷ bs) is =
    bool_cases (starts_with nat_eq (b ∷ bs) by) (λ t. None ≡ (if t then Some 0 else option_map (λ n. suc n) (first_place by bs)) → (if t then [] ∷ parts_after (length by - 1) by bs else onto_first b (parts_after 0 by bs)) ≡ (b ∷ bs) ∷ [])
    (λ e at. cc)
    (λ e at. place_or_none (first_place by bs) (λ o. None ≡ option_map (λ n. suc n) o → onto_first b (parts_after 0 by bs) ≡ (b ∷ bs) ∷ [])
    (λ gone later. ap (onto_first b) (parts_missing by bs (sym gone)))
    (λ k there later. cc)
    at)
    is

abbrev pub cut : List ℕ → List ℕ → ℕ → List ℕ × List ℕ
cut by text place = (take place text, drop (place + length by) text)

-- a first split, and what is left
next_at : (by text : List ℕ) (split : List ℕ × List ℕ) → 0 < length by → Some split ≡ first_split by text → parts by text ≡ split.0 ∷ parts by split.1
next_at by text split some is =
    place_or_none (first_place by text) (λ o. first_place by text ≡ o → Some split ≡ option_map (cut by text) o → parts by text ≡ split.0 ∷ parts by split.1)
    (λ gone o e. let no : Some split ≡ None = e in cc)
    (λ k there o e.
    let same : split ≡ cut by text k = cc in
    parts_found by text k some (sym there) ∙ sym (ap (λ (p : List ℕ × List ℕ). p.0 ∷ parts by p.1) same))
    refl is

pub parts_next : (by text part after : List ℕ) → 0 < length by → Some (part, after) ≡ first_split by text → parts by text ≡ part ∷ parts by after
parts_next by text part after some is = next_at by text (part, after) some is

pub parts_last : (by text : List ℕ) → None ≡ first_split by text → parts by text ≡ text ∷ []
parts_last by text is =
    place_or_none (first_place by text) (λ o. None ≡ option_map (cut by text) o → parts by text ≡ text ∷ [])
    (λ gone e. parts_missing by text (sym gone))
    (λ k there e. let no : None ≡ Some (cut by text k) = e in cc)
    is

pub join_next : (separator part : List ℕ) (ps : List (List ℕ)) → 0 < length ps → joined_texts separator (part ∷ ps) ≡ (part ++ separator) ++ joined_texts separator ps
join_next separator part [] some = absurd (omega arith)
join_next separator part (p ∷ ps) some = ap (λ t. part ++ t) (append_assoc separator p _) ∙ sym (append_assoc part separator _)

pub replaced_next : (what with_ text part after : List ℕ) → 0 < length what → Some (part, after) ≡ first_split what text → replaced what with_ text ≡ (part ++ with_) ++ replaced what with_ after
replaced_next what with_ text part after some is = ap (joined_texts with_) (parts_next what text part after some is) ∙ join_next with_ part (parts what after) (parts_some what after 0)

pub replaced_last : (what with_ text : List ℕ) → None ≡ first_split what text → replaced what with_ text ≡ text
replaced_last what with_ text is = ap (joined_texts with_) (parts_last what text is) ∙ append-nil text
