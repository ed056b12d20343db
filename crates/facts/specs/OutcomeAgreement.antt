-- Two folders whose files have the same faults in a part of them.
use Rattle.std.specs.Prelude.{◌≡◌, ℕ, List, Contains}

-- They are alike on these files, which needs do not lead out of.
pub record AreAlike {K : Type 0} (fault other : ℕ → K → Type 0) (near far : ℕ → ℕ → List ℕ) (In : ℕ → Type 0) : Type 0 where
  pub there : (q : ℕ) (x : K) → In q → fault q x → other q x
  pub back : (q : ℕ) (x : K) → In q → other q x → fault q x
  pub needs : (k q : ℕ) → In q → near k q ≡ far k q
  pub within : (k q r : ℕ) → In q → Contains (near k q) r → In r
