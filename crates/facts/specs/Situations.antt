-- What laws speak of: the nodes of a language, two sets of rules that agree, and the stages of files.
use Rattle.std.specs.Prelude.{ℕ, List}
use Rattle.facts.specs.Agreement.{Agree}
use Rattle.facts.specs.Facts.{Rules}
use Rattle.facts.specs.OutcomeAgreement.{AreAlike}

-- the nodes of a language, the facts that each may have, and the faults
pub record Nodes : Type 1 where
  pub Node : Type 0
  pub FactOf : Node → Type 0
  pub Fault : Type 0

-- two sets of rules that agree on the nodes of `Inside`
pub record Agreement : Type 1 where
  pub nodes : Nodes
  pub one : Rules nodes.FactOf nodes.Fault
  pub two : Rules nodes.FactOf nodes.Fault
  pub Inside : nodes.Node → Type 0
  pub agree : Agree one two Inside

-- The stages of files: the stage of each fault, the order of faults, the faults of each file, and the links to what a stage needs.
pub record Stages : Type 1 where
  pub Fault : Type 0
  pub stage : Fault → ℕ
  pub order : Fault → Fault → Type 0
  pub fault : ℕ → Fault → Type 0
  pub needs : ℕ → ℕ → List ℕ

-- two folders that are alike on the files of `Inside`
pub record Likeness : Type 1 where
  pub stages : Stages
  pub other_fault : ℕ → stages.Fault → Type 0
  pub other_needs : ℕ → ℕ → List ℕ
  pub Inside : ℕ → Type 0
  pub alike : AreAlike stages.fault other_fault stages.needs other_needs Inside
