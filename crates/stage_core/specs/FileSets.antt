-- Lists of files as sets.
use Rattle.std.specs.Prelude.{◌≡◌, ℕ, zero, suc, ◌+◌, Bool, List, [], ◌∷◌, ◌++◌, length, cond, nat_eq, ◌==◌}
use Rattle.std.specs.List.{list_any, IsDistinct}

-- whether y is one of xs
unfoldable pub is_in : ℕ → List ℕ → Bool
is_in y xs = list_any (λ x. x == y) xs

-- how many of the numbers below n are not in xs
unfoldable pub missing : ℕ → List ℕ → ℕ
missing zero xs = 0
missing (suc n) xs = missing n xs + cond (is_in n xs) 0 1

-- they differ, and each is below n
pub record IsFileSet (n : ℕ) (xs : List ℕ) : Type 0 where
  pub once : IsDistinct nat_eq xs
  pub counted : length xs + missing n xs ≡ n

-- with one more, unless it is there
unfoldable pub with_file : List ℕ → ℕ → List ℕ
with_file xs y = cond (is_in y xs) xs (xs ++ y ∷ [])

unfoldable pub with_files : List ℕ → List ℕ → List ℕ
with_files xs [] = xs
with_files xs (y ∷ ys) = with_files (with_file xs y) ys

-- the numbers below n, in ascending order
unfoldable pub files_below : ℕ → List ℕ
files_below zero = []
files_below (suc n) = files_below n ++ n ∷ []
