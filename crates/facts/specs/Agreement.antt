-- Two sets of rules that agree on some nodes.
use Rattle.std.specs.Prelude.{◌≡◌}
use Rattle.facts.specs.Facts.{IsPart, Rules}

-- They have the same rules for these nodes, and no part of one of these lies outside.
pub record Agree {N : Type 0} {F : N → Type 0} {K : Type 0} (one two : Rules F K) (In : N → Type 0) : Type 0 where
  pub rules : (n : N) → In n → one.rule n ≡ two.rule n
  pub children : (n : N) → In n → one.children n ≡ two.children n
  pub cycle_fault : (n : N) → In n → one.cycle_fault n ≡ two.cycle_fault n
  pub within : (n m : N) → In n → IsPart one n m → In m
