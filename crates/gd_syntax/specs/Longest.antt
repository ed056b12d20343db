-- The longest front of a text that is spelled in a way.
use Rattle.std.specs.Prelude.{◌≡◌, ℕ, ◌<◌, ◌≤◌, Bool, true, false, ◌&&◌, ◌==◌, if◌then◌else◌, List, [], ◌∷◌, length, take, is_some}
use Rattle.gd_syntax.specs.Spellings.{is_digit, spelled}
use Rattle.gd_syntax.specs.Tokens.{signs}

-- the first n characters are spelled so, and no longer front is
pub record IsLongest (is : List ℕ → Bool) (text : List ℕ) (n : ℕ) : Type 0 where
  pub fits : n ≤ length text
  pub spelled : is (take n text) ≡ true
  pub longest : (k : ℕ) → n < k → k ≤ length text → is (take k text) ≡ false

-- digits, with one `_` between two digits where one likes, and a digit at the end; whether a digit stands in front
abbrev pub are_digits : ℕ → Bool → List ℕ → Bool
are_digits radix behind [] = behind
are_digits radix behind (c ∷ text) = if is_digit radix c then are_digits radix true text else (behind && c == 95) && are_digits radix false text

-- whether a sign is spelled so
abbrev pub is_sign_text : List ℕ → Bool
is_sign_text text = is_some (spelled signs text)
