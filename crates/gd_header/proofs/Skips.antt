-- A skip that meets the end of its text.
use Rattle.std.proofs.Common.{◌≡◌, ℕ, ◌<◌, ◌≤◌, List, [], length, ap, arith}
use Rattle.std.proofs.Math.Nat.{eq-or-lt_of_le}
use mathlib.Core.Logic.{◌⊎◌, inl, inr}

module _ (left n old rest : ℕ) (first now : List ℕ) (is : now ≡ []) (some : 1 ≤ length first) where
  by_room : (left ≡ n → length first ≤ length now) → (left < n → rest < old) → (left ≡ n) ⊎ (left < n) → rest < old
  by_room same shorter (inl all) = absurd (omega (arith, same all, ap length is, some))
  by_room same shorter (inr less) = shorter less

  -- where it took one character at least, the text grew shorter
  pub met_end : left ≤ n → (left < n → 1 ≤ length first → rest < old) → (left ≡ n → length first ≤ length now) → rest < old
  met_end most shorter same = by_room same (λ less. shorter less some) (eq-or-lt_of_le most)
