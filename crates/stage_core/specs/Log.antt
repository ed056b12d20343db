-- The log and the events, as plain data.
use Rattle.std.specs.Prelude.{ℕ, List}
use Rattle.stage_core.specs.declared.work.Outcome.{Outcome}
pub use Rattle.stage_core.specs.declared.log.OutcomeValue.{OutcomeValue}
pub use Rattle.stage_core.specs.declared.log.OutcomeValue.TheVariants.{Value, Fault, Block}
pub use Rattle.stage_core.specs.declared.log.Entry.{Entry}
pub use Rattle.stage_core.specs.declared.log.Entry.TheVariants.{Request, Claim, Publish}
use Rattle.stage_core.specs.declared.work.Outcome.TheVariants.{Done, Refused, Blocked}

-- the outcome without the place of its result
abbrev pub value_of : {O : Type 0} → Outcome O → OutcomeValue O
value_of (Done arc) = Value arc.value
value_of (Refused fault) = Fault fault
value_of Blocked = Block

-- a core: its project, its log, and the tasks under way
pub record State (P O : Type 0) : Type 0 where
  pub project : P
  pub log : List (Entry O)
  -- by file: the stage of its task under way, or 0
  pub in_progress : List ℕ

-- what may happen to a core
pub data Event (O : Type 0) : Type 0 where
  Requests : (file : ℕ) → Event O
  Claims : (file stage : ℕ) → Event O
  Publishes : (file stage : ℕ) → OutcomeValue O → Event O
  GivesBack : (file stage : ℕ) → Event O
