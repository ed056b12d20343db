-- What is reached by links.
use Rattle.std.specs.Prelude.{ℕ, List, Contains}

pub data Reaches (next : ℕ → List ℕ) : ℕ → ℕ → Type 0 where
  here : {a : ℕ} → Reaches next a a
  on : {a b c : ℕ} → Reaches next a b → Contains (next b) c → Reaches next a c

-- what is reached, as a list
pub record Cover (next : ℕ → List ℕ) (a : ℕ) : Type 0 where
  pub files : List ℕ
  pub sound : (b : ℕ) → Contains files b → Reaches next a b
  pub complete : (b : ℕ) → Reaches next a b → Contains files b
