-- The front of a text whose characters pass a test.
use Rattle.std.proofs.Common.{◌≡◌, refl, sym, ap, ◌∙◌, ℕ, zero, suc, ◌+◌, ◌≤◌, Bool, true, false, List, [], ◌∷◌, length, take, drop, arith}
use Rattle.std.proofs.lemmas.List.{take_all}
use Rattle.std.specs.List.{prefix_len}

-- so many characters were passed, which pass the test
abbrev pub IsPassed : (ℕ → Bool) → List ℕ → List ℕ → Type 0
IsPassed p text rest = (n : ℕ) × (rest ≡ drop n text) × (n + prefix_len p rest ≡ prefix_len p text)

drop-suc : (n : ℕ) (c : ℕ) (text rest : List ℕ) → c ∷ rest ≡ drop n text → rest ≡ drop (suc n) text
drop-suc zero c [] rest is = absurd (cc)
drop-suc zero c (d ∷ text) rest is = ap (λ t. drop 1 t) is
drop-suc (suc n) c [] rest is = absurd (cc)
drop-suc (suc n) c (d ∷ text) rest is = drop-suc n c text rest is

pub pass_one : (p : ℕ → Bool) (text rest after : List ℕ) (c : ℕ) → rest ≡ c ∷ after → p c ≡ true → IsPassed p text rest → IsPassed p text after
pass_one p text rest after c is passes passed =
    let more : prefix_len p rest ≡ 1 + prefix_len p after = ap (prefix_len p) is ∙ (rw passes refl) in
    (suc passed.0, drop-suc passed.0 c text after (sym is ∙ passed.1), omega (arith, more, passed.2))

pub stop_at : (p : ℕ → Bool) (text rest after : List ℕ) (c : ℕ) → rest ≡ c ∷ after → p c ≡ false → IsPassed p text rest → rest ≡ drop (prefix_len p text) text
stop_at p text rest after c is stops passed =
    let none : prefix_len p rest ≡ 0 = ap (prefix_len p) is ∙ (rw stops refl) in
    passed.1 ∙ ap (λ n. drop n text) (omega (arith, none, passed.2))

pub stop_end : (p : ℕ → Bool) (text rest : List ℕ) → rest ≡ [] → IsPassed p text rest → rest ≡ drop (prefix_len p text) text
stop_end p text rest is passed =
    let none : prefix_len p rest ≡ 0 = ap (prefix_len p) is in
    passed.1 ∙ ap (λ n. drop n text) (omega (arith, none, passed.2))

drop_none : (n : ℕ) (text : List ℕ) → drop n text ≡ [] → length text ≤ n
drop_none n [] is = omega arith
drop_none zero (c ∷ text) is = absurd (cc)
drop_none (suc n) (c ∷ text) is = omega (arith, drop_none n text is)

-- where all pass, the text is its own front
pub all_pass : (p : ℕ → Bool) (text rest : List ℕ) → rest ≡ [] → IsPassed p text rest → text ≡ take (prefix_len p text) text
all_pass p text rest is passed =
    let none : prefix_len p rest ≡ 0 = ap (prefix_len p) is in
    let short : length text ≤ passed.0 = drop_none passed.0 text (sym passed.1 ∙ is) in
    sym (take_all (prefix_len p text) text (omega (arith, none, passed.2, short)))
