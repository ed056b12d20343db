-- What a run of a script prints, and how it ends.
use Rattle.std.specs.Prelude.{ℕ, ◌-◌, if◌then◌else◌, List, [], ◌∷◌, ◌++◌, codes, decimal, None, Result, Ok, Err}
use Rattle.variant_values.specs.declared.classes.ClassTag.{ClassTag}
use Rattle.variant_values.specs.declared.faults.RunFault.{RunFault}
use Rattle.variant_values.specs.declared.faults.RunFault.TheVariants as fault
use Rattle.variant_values.specs.declared.values.Serial.{Serial}
use Rattle.variant_values.specs.declared.values.Value.{Value}
use Rattle.variant_values.specs.declared.values.Value.TheVariants.{Object}
use Rattle.variant_values.specs.Heaps.{cell_at, is_living, objects_in}
use Rattle.variant_values.specs.Places.{is_counted}
use Rattle.variant_values.specs.Trees.{freed}
use Rattle.script_meaning.specs.State.{World, Spot, Stop, Failed, Spent, heap_of, with_heap, sweep}
use Rattle.script_meaning.specs.Projects.{Project, most_frames}
use Rattle.script_meaning.specs.Objects.{make}
use Rattle.script_meaning.specs.Functions.{Bodies, script_calls}

-- How a run ends: after so many steps with so many objects left, or with a fault or a step past the allowance at a line.
pub data RunEnd : Type 0 where
  Ended : (steps left : ℕ) → RunEnd
  Faulted : (kind : RunFault) (spot : Spot) (steps : ℕ) → RunEnd
  OutOfSteps : (spot : Spot) (steps : ℕ) → RunEnd

-- what a run prints, and how it ends
pub record Run : Type 0 where
  pub text : List ℕ
  pub end : RunEnd

-- The world before a run. No cell has the serial 0.
abbrev pub empty_world : ℕ → World
empty_world steps = record { cells = None ∷ []; queued = []; printed = []; left = steps }

-- ---- the end of a run, where no frame is active

-- an object, with its subtree and the connections from and to them, is freed where it still lives
abbrev pub freed_in : Serial → World → World
freed_in s w = if is_living w.cells s.0 then with_heap w (freed (heap_of [] w) s.0) else w

-- the nodes that were queued, in order of asking
abbrev pub all_freed : List Serial → World → World
all_freed [] w = w
all_freed (s ∷ ss) w = all_freed ss (freed_in s w)

-- the script's own instance, where it is not counted
abbrev pub instance_freed : Value → World → World
instance_freed (Object s) w = if is_counted (cell_at w.cells s.0) then w else freed_in s w
instance_freed v w = w

-- the world whose objects are those that are left
abbrev pub last_world : Value → World → World
last_world instance w = sweep [] (instance_freed instance (all_freed w.queued w))

-- a run by its one call, where so many steps were allowed
abbrev pub run_by : ℕ → Result (Value × Value × World) Stop → Run
run_by allowed (Ok (instance, returned, w)) = record { text = w.printed; end = Ended (allowed - w.left) (objects_in (last_world instance w).cells) }
run_by allowed (Err (Failed kind spot w)) = record { text = w.printed; end = Faulted kind spot (allowed - w.left) }
run_by allowed (Err (Spent spot w)) = record { text = w.printed; end = OutOfSteps spot (allowed - w.left) }

module _ (project : Project) where
  -- one instance of the class is made without arguments, where so many frames may be active
  abbrev pub run_within : Bodies → ℕ → ClassTag → ℕ → Run
  run_within bodies frames class steps = run_by steps (make project (script_calls project bodies frames) [] None class [] (empty_world steps))

  -- the same with the frames that may be active
  abbrev pub run_of : Bodies → ClassTag → ℕ → Run
  run_of bodies class steps = run_within bodies most_frames class steps

-- ---- the outcome line

-- the word of a fault in an outcome line
abbrev pub fault_name : RunFault → List ℕ
fault_name fault.NullAccess = codes "NullAccess"
fault_name fault.FreedAccess = codes "FreedAccess"
fault_name fault.NotCallable = codes "NotCallable"
fault_name fault.NoMember = codes "NoMember"
fault_name fault.NoMethod = codes "NoMethod"
fault_name fault.NoSignal = codes "NoSignal"
fault_name fault.BadArgs = codes "BadArgs"
fault_name fault.BadOperands = codes "BadOperands"
fault_name fault.BadKey = codes "BadKey"
fault_name fault.BadIndex = codes "BadIndex"
fault_name fault.ElementType = codes "ElementType"
fault_name fault.NoKey = codes "NoKey"
fault_name fault.BadFormat = codes "BadFormat"
fault_name fault.BadType = codes "BadType"
fault_name fault.NodeBusy = codes "NodeBusy"
fault_name fault.NoNode = codes "NoNode"
fault_name fault.AlreadyConnected = codes "AlreadyConnected"
fault_name fault.NotConnected = codes "NotConnected"
fault_name fault.DivisionByZero = codes "DivisionByZero"
fault_name fault.BadShift = codes "BadShift"
fault_name fault.TooDeep = codes "TooDeep"
fault_name fault.TooLong = codes "TooLong"
fault_name fault.HeapFull = codes "HeapFull"
fault_name fault.OutputFull = codes "OutputFull"
fault_name fault.CallTooDeep = codes "CallTooDeep"
fault_name fault.AssertFailed = codes "AssertFailed"

module _ (path : ℕ → List ℕ) where
  -- `PATH:LINE`
  abbrev pub spot_text : Spot → List ℕ
  spot_text spot = path spot.file ++ codes ":" ++ decimal spot.line

  -- the last line of what a run writes
  abbrev pub outcome_line : RunEnd → List ℕ
  outcome_line (Ended steps left) = codes "done steps " ++ decimal steps ++ codes " left " ++ decimal left ++ codes "\n"
  outcome_line (Faulted kind spot steps) = codes "fault " ++ fault_name kind ++ codes " " ++ spot_text spot ++ codes " steps " ++ decimal steps ++ codes "\n"
  outcome_line (OutOfSteps spot steps) = codes "spent " ++ spot_text spot ++ codes " steps " ++ decimal steps ++ codes "\n"

  -- all that a run writes
  abbrev pub whole_text : Run → List ℕ
  whole_text run = run.text ++ outcome_line run.end
