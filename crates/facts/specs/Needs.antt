-- What the fact of a node hangs on, through other facts.
use Rattle.facts.specs.Facts.{Requires, Rules}

module _ {N : Type 0} {F : N → Type 0} {K : Type 0} (rules : Rules F K) where
  pub data Needs : N → N → Type 0 where
    one : {a b : N} → Requires rules (rules.rule a) b → Needs a b
    more : {a b c : N} → Requires rules (rules.rule a) b → Needs b c → Needs a c
