-- A text that is read a character at a time.
use Rattle.std.specs.Prelude.{◌≡◌, ℕ, List, [], ◌∷◌, drop, Option, Some, None}
use Rattle.gd_syntax.specs.declared.fault.Place.{Place}
use Rattle.gd_syntax.specs.Layout.{past}

-- the next character was taken, if there is one
abbrev pub IsNext : Place → List ℕ → Option ℕ → Place → List ℕ → Type 0
IsNext old text None new rest = (text ≡ []) × (rest ≡ []) × (new ≡ old)
IsNext old text (Some c) new rest = (text ≡ c ∷ rest) × (new ≡ past old c)

-- the first character and what is behind it
abbrev pub IsSplit : List ℕ → Option (ℕ × List ℕ) → Type 0
IsSplit text None = text ≡ []
IsSplit text (Some split) = text ≡ split.0 ∷ split.1

-- what is left behind some characters
abbrev pub IsEnd : List ℕ → List ℕ → Type 0
IsEnd text end = (n : ℕ) × (end ≡ drop n text)
