-- A node has one fault at most, and none beside a fact.
use Rattle.std.proofs.Common.{◌≡◌, sym, ◌∙◌}
use Rattle.facts.specs.Facts.{Rules, IsResolved, IsUnresolved, IsPart, LeadsTo, IsAtFault}
use Rattle.facts.proofs.Derivations.{only_ends, fails_gives}

module _ {N : Type 0} {F : N → Type 0} {K : Type 0} (rules : Rules F K) where
  not_resolved : (n m : N) → LeadsTo rules n m → ((x : N) → IsPart rules n x → IsResolved rules x) → ⊥
  not_resolved n m (LeadsTo.first p u) w = let k = w m p in u k.0 k.1
  not_resolved n m (LeadsTo.further {b = b} l p u) w = not_resolved n b l w

  pub last_unresolved : (n m : N) → LeadsTo rules n m → IsUnresolved rules m
  last_unresolved n m (LeadsTo.first p u) = u
  last_unresolved n m (LeadsTo.further l p u) = u

  -- a node with a fact has no fault
  pub resolved_apart_fault : (n : N) (x : K) → IsResolved rules n → IsAtFault rules n x → ⊥
  resolved_apart_fault n x w (IsAtFault.fails_itself e v) = fails_gives rules n (rules.rule n) x w.0 e w.1
  resolved_apart_fault n x w (IsAtFault.in_cycle t l) = last_unresolved n n l w.0 w.1

  -- a node has one fault at most
  pub only_fault : (n : N) (x y : K) → IsAtFault rules n x → IsAtFault rules n y → x ≡ y
  only_fault n x y (IsAtFault.fails_itself e w) (IsAtFault.fails_itself f v) = only_ends rules (rules.rule n) x y e f
  only_fault n x y (IsAtFault.fails_itself e w) (IsAtFault.in_cycle t l) = absurd (not_resolved n n l w)
  only_fault n x y (IsAtFault.in_cycle t l) (IsAtFault.fails_itself e w) = absurd (not_resolved n n l w)
  only_fault n x y (IsAtFault.in_cycle t l) (IsAtFault.in_cycle s m) = let e = sym t ∙ s in cc e
