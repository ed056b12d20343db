-- Facts of nodes: what the rules of a language give, where they give none, and which node is at fault then.
use Rattle.std.specs.Prelude.{◌≡◌, ◌⊎◌, Option, Some, List, Contains}

-- What the fact of a node hangs on: it is given, or the node's own form fails with a fault, or first the fact of another node is needed.
pub data Rule {N : Type 0} (F : N → Type 0) (K A : Type 0) : Type 0 where
  Give : A → Rule F K A
  Fail : K → Rule F K A
  Need : (m : N) → (F m → Rule F K A) → Rule F K A

-- The rules of a language. A node has the nodes below it, and a declaration has the fault that comes where it hangs on itself.
pub record Rules {N : Type 0} (F : N → Type 0) (K : Type 0) : Type 0 where
  pub rule : (n : N) → Rule F K (F n)
  pub children : N → List N
  pub cycle_fault : N → Option K

-- The least facts that the rules give: one derivation is one run of the node's rule.
pub data Derives {N : Type 0} {F : N → Type 0} {K : Type 0} (rules : Rules F K) : (n : N) → Rule F K (F n) → F n → Type 0 where
  gives : {n : N} {f : F n} → Derives rules n (Give f) f
  gets : {n m : N} {k : F m → Rule F K (F n)} {g : F m} {f : F n} → Derives rules m (rules.rule m) g → Derives rules n (k g) f → Derives rules n (Need m k) f

module _ {N : Type 0} {F : N → Type 0} {K : Type 0} (rules : Rules F K) where
  -- this is a fact of the node
  abbrev pub HasFact : (n : N) → F n → Type 0
  HasFact n f = Derives rules n (rules.rule n) f

  -- it has a fact
  abbrev pub IsResolved : N → Type 0
  IsResolved n = (f : F n) × HasFact n f

  abbrev pub IsUnresolved : N → Type 0
  IsUnresolved n = (f : F n) → HasFact n f → ⊥

  -- with the facts of all that it needs, the rule fails with this fault
  pub data FailsWith {A : Type 0} : Rule F K A → K → Type 0 where
    fails : {x : K} → FailsWith (Fail x) x
    after : {m : N} {k : F m → Rule F K A} {g : F m} {x : K} → HasFact m g → FailsWith (k g) x → FailsWith (Need m k) x

  -- the rule comes to need this node
  pub data Requires {A : Type 0} : Rule F K A → N → Type 0 where
    now : {m : N} {k : F m → Rule F K A} → Requires (Need m k) m
    later : {m : N} {k : F m → Rule F K A} {g : F m} {x : N} → HasFact m g → Requires (k g) x → Requires (Need m k) x

  -- The parts of a node are the nodes below it and those that its rule comes to need, as the declarations that it names.
  abbrev pub IsPart : N → N → Type 0
  IsPart n m = Contains (rules.children n) m ⊎ Requires (rules.rule n) m

  -- parts without facts lead from the one to the other
  pub data LeadsTo (a : N) : N → Type 0 where
    first : {b : N} → IsPart a b → IsUnresolved b → LeadsTo a b
    further : {b c : N} → LeadsTo a b → IsPart b c → IsUnresolved c → LeadsTo a c

  -- this is the fault of the node
  pub data IsAtFault (n : N) (x : K) : Type 0 where
    -- it has no fact, and all its parts have theirs
    fails_itself : FailsWith (rules.rule n) x → ((m : N) → IsPart n m → IsResolved m) → IsAtFault n x
    -- it is a declaration, and parts without facts lead from it back to it
    in_cycle : rules.cycle_fault n ≡ Some x → LeadsTo n n → IsAtFault n x

  -- Held up: one of these entries, or its rule fails, or it needs one that is held up.
  pub data IsHeldUp (Entry : N → Type 0) : N → Type 0 where
    entry : {n : N} → Entry n → IsHeldUp Entry n
    ends : {n : N} {x : K} → FailsWith (rules.rule n) x → IsHeldUp Entry n
    waits : {n m : N} → Requires (rules.rule n) m → IsHeldUp Entry m → IsHeldUp Entry n
