-- Rules over finitely many nodes.
use Rattle.std.specs.Prelude.{◌≡◌, ℕ, ◌<◌, ◌⊎◌, List, Contains}
use Rattle.std.specs.declared.option.Option.{Option}
use Rattle.std.specs.declared.option.Option.TheVariants.{None, Some}
use Rattle.facts.specs.Facts.{IsAtFault, IsPart, LeadsTo, Rules}

module _ {N : Type 0} {F : N → Type 0} {K : Type 0} (rules : Rules F K) where
  -- the nodes of the list have parts in the list only
  pub record IsClosed (all : List N) : Type 0 where
    pub parts : (n m : N) → Contains all n → IsPart rules n m → Contains all m

  -- Each way down the parts comes to an end, or to a declaration.
  pub record IsRanked (rank : N → ℕ) : Type 0 where
    pub lower : (n m : N) → IsPart rules n m → rules.cycle_fault m ≡ None → rank m < rank n

  -- a node that may lie on a cycle
  abbrev pub IsDeclaration : N → Type 0
  IsDeclaration n = (x : K) × (rules.cycle_fault n ≡ Some x)

  -- the declarations of the list have numbers below `count`, each one of its own
  pub record AreNumbered (all : List N) : Type 0 where
    pub count : ℕ
    pub number : N → ℕ
    pub node : ℕ → Option ((d : N) × Contains all d × IsDeclaration d)
    pub few : (d : N) → Contains all d → IsDeclaration d → number d < count
    pub back : (d : N) → Contains all d → IsDeclaration d → (i : Contains all d) × (k : IsDeclaration d) × (node (number d) ≡ Some (d, i, k))

  -- the node is at fault, or leads to one that is
  pub record LeadsToFault (n : N) : Type 0 where
    pub node : N
    pub fault : K
    pub at : IsAtFault rules node fault
    pub from : (n ≡ node) ⊎ LeadsTo rules n node
