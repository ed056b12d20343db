-- How a string in `"` goes on.
use Rattle.std.proofs.Common.{◌≡◌, refl, ap, ℕ, ◌≤◌, ◌==◌, List, [], ◌∷◌, length, get_or, true, false, None, arith}
use Rattle.std.proofs.lemmas.Bool.Decides.{nat_tests}
use Rattle.gd_syntax.specs.Spellings.{repeats, Contents, broken, endless}
use Rattle.scene_syntax.specs.Values.{whole_string}

pub quote_here : (c : ℕ) (rest : List ℕ) → 1 ≤ length rest → c ≡ get_or rest 0 c → c ≡ 34 → repeats 34 1 rest ≡ true
quote_here c [] some is same = absurd (omega arith)
quote_here c (d ∷ rest) some is same =
    let test : (d == 34) ≡ true = grind (arith, nat_tests) in
    rw test refl

pub no_quote_here : (c : ℕ) (rest : List ℕ) → 1 ≤ length rest → c ≡ get_or rest 0 c → ¬ (c ≡ 34) → repeats 34 1 rest ≡ false
no_quote_here c [] some is other = absurd (omega arith)
no_quote_here c (d ∷ rest) some is other =
    let test : (d == 34) ≡ false = grind (arith, nat_tests) in
    rw test refl

pub no_string : (size : ℕ) (c : Contents) (n : ℕ) → broken n ≡ c → None ≡ whole_string size c
no_string size c n is = ap (whole_string size) is

pub no_end : (size : ℕ) (c : Contents) → endless ≡ c → None ≡ whole_string size c
no_end size c is = ap (whole_string size) is
