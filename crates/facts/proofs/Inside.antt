-- What each rule keeps holds of all facts, and the rules do not lead out.
use Rattle.facts.specs.Facts.{Rule, Give, Fail, Need, Rules, Derives, gives, gets, HasFact, Requires}

module _ {N : Type 0} {F : N → Type 0} {K : Type 0} (In : N → Type 0) (Fine : (n : N) → F n → Type 0) where
  -- what the rule needs is inside, and from fine facts it gives a good one
  abbrev pub Safe : {A : Type 0} → (A → Type 0) → Rule F K A → Type 0
  Safe good (Give a) = good a
  Safe good (Fail x) = Unit {0}
  Safe good (Need m k) = In m × ((g : F m) → Fine m g → Safe good (k g))

  module _ (rules : Rules F K) (safe : (n : N) → In n → Safe (Fine n) (rules.rule n)) where
    pub fine_runs : (n : N) (r : Rule F K (F n)) (f : F n) → Derives rules n r f → Safe (Fine n) r → Fine n f
    fine_runs n _ f gives s = s
    fine_runs n _ f (gets {m = m} {k = k} {g = g} x y) s = fine_runs n (k g) f y (s.1 g (fine_runs m _ g x (safe m s.0)))

    pub fine : (n : N) (f : F n) → In n → HasFact rules n f → Fine n f
    fine n f i h = fine_runs n _ f h (safe n i)

    pub asks_in : {A : Type 0} (good : A → Type 0) (r : Rule F K A) (x : N) → Requires rules r x → Safe good r → In x
    asks_in good _ x Requires.now s = s.0
    asks_in good _ x (Requires.later {m = m} {k = k} {g = g} h a) s = asks_in good (k g) x a (s.1 g (fine m g s.0 h))

-- a rule needs such nodes only, whatever their facts are
abbrev pub Each : {N : Type 0} {F : N → Type 0} {K A : Type 0} → (N → Type 0) → Rule F K A → Type 0
Each In (Give a) = Unit {0}
Each In (Fail x) = Unit {0}
Each {F = F} In (Need m k) = In m × ((g : F m) → Each In (k g))

pub asks_each : {N : Type 0} {F : N → Type 0} {K A : Type 0} (rules : Rules F K) (In : N → Type 0) (r : Rule F K A) (x : N) → Requires rules r x → Each In r → In x
asks_each rules In _ x Requires.now s = s.0
asks_each rules In _ x (Requires.later {k = k} {g = g} h a) s = asks_each rules In (k g) x a (s.1 g)
