-- What a turn of a repetition comes to.
use Rattle.std.specs.Prelude.{ℕ, ◌<◌, ◌≤◌, List, length}
use Rattle.gd_syntax.specs.declared.token.Token.{Token}
use Rattle.gd_syntax.specs.Reading.{Outcome, Read, Turn, On, Last}
use Rattle.gdrun.specs.declared.taken.Next.{Next}
use Rattle.gdrun.specs.declared.taken.Next.TheVariants as n

-- with what the repetition goes on, and what it gives where it ends
abbrev pub turned : {A : Type 0} → A → A → Next → Outcome (Turn A)
turned more done (n.On at) = Read (On more) at
turned more done (n.Last at) = Read (Last done) at

-- A turn takes nothing back, and takes a token where the repetition goes on.
abbrev pub IsOnward : List Token → ℕ → Next → Type 0
IsOnward tokens at (n.On next) = (at < next) × (next < length tokens)
IsOnward tokens at (n.Last next) = (at ≤ next) × (next < length tokens)
