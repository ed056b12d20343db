-- How far a file has come, by its outcomes.
use Rattle.std.specs.Prelude.{ℕ, zero, suc, List, [], ◌∷◌, length, filter, Option, Some, None}
use Rattle.stage_core.specs.declared.status.RefStatus.{RefStatus}
use Rattle.stage_core.specs.declared.status.RefStatus.TheVariants.{Empty, Parsed, InheritanceSolved, InterfaceSolved, FullySolved, Compiled, Refused, Blocked}
use Rattle.gd_syntax.specs.declared.fault.LoadFault.{LoadFault}
use Rattle.stage_core.specs.Log.{OutcomeValue, Value, Fault, Block}
use Rattle.stage_core.specs.Machine.{is_final}

-- the status of a file whose last stage that has a result is this one
abbrev pub stage_status : ℕ → RefStatus
stage_status zero = Empty
stage_status (suc zero) = Parsed
stage_status (suc (suc zero)) = InheritanceSolved
stage_status (suc (suc (suc zero))) = InterfaceSolved
stage_status (suc (suc (suc (suc zero)))) = FullySolved
stage_status (suc (suc (suc (suc (suc stage))))) = Compiled

-- the status that a final outcome gives; where there is none, that of the stage
abbrev pub final_or : {O : Type 0} → List (OutcomeValue O) → ℕ → RefStatus
final_or [] stage = stage_status stage
final_or (Value x ∷ os) stage = stage_status stage
final_or (Fault fault ∷ os) stage = Refused fault
final_or (Block ∷ os) stage = Blocked

-- Refused or Blocked where the file has that outcome, and else the status of its last stage
unfoldable pub status_of : {O : Type 0} → List (OutcomeValue O) → RefStatus
status_of os = final_or (filter is_final os) (length os)

-- the fault with which the file was refused
abbrev pub status_fault : RefStatus → Option LoadFault
status_fault Empty = None
status_fault Parsed = None
status_fault InheritanceSolved = None
status_fault InterfaceSolved = None
status_fault FullySolved = None
status_fault Compiled = None
status_fault (Refused fault) = Some fault
status_fault Blocked = None
