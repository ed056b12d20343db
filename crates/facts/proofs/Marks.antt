-- Which of the numbers below a bound a list has.
use Rattle.std.proofs.Common.{ℕ, zero, suc, ◌+◌, Bool, List, cond, ◌==◌}
use Rattle.std.specs.List.{list_any}

-- whether y is one of xs
unfoldable pub is_in : ℕ → List ℕ → Bool
is_in y xs = list_any (λ x. x == y) xs

-- how many of the numbers below n are not in xs
unfoldable pub missing : ℕ → List ℕ → ℕ
missing zero xs = 0
missing (suc n) xs = missing n xs + cond (is_in n xs) 0 1
