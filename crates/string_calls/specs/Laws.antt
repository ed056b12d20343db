-- What the first place of a text in another is, in terms of what stands where.
use Rattle.std.specs.Prelude.{◌≡◌, ℕ, ◌<◌, List, ◌++◌, length, drop}
use Rattle.std.specs.Str.Pattern.{LacksTextAt}

-- a text stands at this place of another, and at no place before
pub record IsFirst (what text : List ℕ) (n : ℕ) : Type 0 where
  pub here : drop n text ≡ what ++ drop (length what) (drop n text)
  pub before : (k : ℕ) → k < n → LacksTextAt what text k
