-- Facts and faults by computation, within so many steps down the needs.
use Rattle.std.specs.Prelude.{ℕ, zero, suc, Option, Some, None}
use Rattle.facts.specs.Facts.{Rule, Give, Fail, Need, Rules}

-- what a rule comes to: a fact, a fault, or a node of which nothing is known
pub data Ending {N : Type 0} (F : N → Type 0) (K A : Type 0) : Type 0 where
  Gave : A → Ending F K A
  Failed : K → Ending F K A
  Waits : N → Ending F K A

module _ {N : Type 0} {F : N → Type 0} {K : Type 0} where
  -- with the fact of the node that is needed, where it is known
  abbrev pub ending_on : {A : Type 0} → (m : N) → Option (F m) → (F m → Ending F K A) → Ending F K A
  ending_on m None next = Waits m
  ending_on m (Some g) next = next g

  unfoldable pub ending : {A : Type 0} → ((m : N) → Option (F m)) → Rule F K A → Ending F K A
  ending known (Give f) = Gave f
  ending known (Fail x) = Failed x
  ending known (Need m next) = ending_on m (known m) (λ g. ending known (next g))

  abbrev pub given : {A : Type 0} → Ending F K A → Option A
  given (Gave f) = Some f
  given (Failed x) = None
  given (Waits m) = None

  -- the fact of a node, where so many steps are enough
  unfoldable pub evaluated : Rules F K → ℕ → (n : N) → Option (F n)
  evaluated rules zero n = None
  evaluated rules (suc steps) n = given (ending (evaluated rules steps) (rules.rule n))

  -- what the rule of a node comes to then
  abbrev pub ends_at : Rules F K → ℕ → (n : N) → Ending F K (F n)
  ends_at rules steps n = ending (evaluated rules steps) (rules.rule n)
