-- What a run did, by the folder and the sink.
use Rattle.std.specs.Prelude.{◌≡◌, ◌≢◌, ℕ, ◌+◌, ◌^◌, ◌<◌, if◌then◌else◌, List, IsTrue, Result}
use Rattle.std.specs.declared.option.Option.{Option}
use Rattle.std.specs.declared.option.Option.TheVariants.{Some}
use Rattle.std.specs.declared.result.Result.TheVariants.{Ok, Err}
use Rattle.host_io.specs.Causes.{Calls}
use Rattle.host_io.specs.Folder.{Files}
use Rattle.host_io.specs.Sink.{SinkState, Writes}
use Rattle.host_io.specs.Pieces.{WroteAll, WroteFirst, FailedWrite, all_fit}
use Rattle.host_io.specs.declared.folder.Faults.{Faults}
use Rattle.folder_meaning.specs.Reading.{Reading}
use Rattle.project_run.specs.Found.{Found, read, IsFoundBy, HasFoundFaults}
use Rattle.gdrun.specs.declared.status.Status.{Status}
use Rattle.gdrun.specs.declared.status.Status.TheVariants.{SinkFault, NoMemory}
use Rattle.gd_syntax.specs.declared.fault.SolveError.{SolveError}
use Rattle.gd_syntax.specs.declared.fault.SolveError.TheVariants.{Fault, NoMemory as SolveMemory}
use Rattle.gdrun.specs.declared.stop.Stop.{Stop}
use Rattle.gdrun.specs.declared.stop.Stop.TheVariants.{NoMemory as StopMemory, SinkFault as StopSink}
use Rattle.gdrun.specs.Words.{command_of, reads_folder, wanted_by, FolderCommand, script}
use Rattle.gdrun.specs.Outcome.{Outcome, IsOutcome, IsOutcomeOfFound, file_refusal}

-- an inner call that stopped has written the first of these pieces
abbrev pub HasStopped : SinkState → SinkState → List (List ℕ) → Stop → Type 0
HasStopped old new pieces StopSink = FailedWrite old new pieces
HasStopped old new pieces StopMemory = WroteFirst old new pieces

-- an inner call has written these pieces, or the first of them
abbrev pub HasPut : {T : Type 0} → SinkState → SinkState → List (List ℕ) → Result T Stop → Type 0
HasPut old new pieces (Ok _) = WroteAll old new pieces
HasPut old new pieces (Err stop) = HasStopped old new pieces stop

-- an inner call has written an outcome and answers its status
abbrev pub HasWritten : SinkState → SinkState → Outcome → Result Status Stop → Type 0
HasWritten old new outcome (Ok status) = (status ≡ outcome.status) × WroteAll old new outcome.pieces
HasWritten old new outcome (Err stop) = HasStopped old new outcome.pieces stop

-- an inner call has written an outcome of this kind
pub record HasWrittenSome (Means : Outcome → Type 0) (old new : SinkState) (result : Result Status Stop) : Type 0 where
  pub outcome : Outcome
  pub means : Means outcome
  pub wrote : HasWritten old new outcome result

-- an inner call has written the report of a refused path, unless memory ran out before
abbrev pub HasRefused : List ℕ → SolveError → SinkState → SinkState → Result Status Stop → Type 0
HasRefused path (Fault fault) old new result = HasWritten old new (file_refusal path fault) result
HasRefused path SolveMemory old new result = (result ≡ Err StopMemory) × (new ≡ old)

-- The whole run: each piece was taken by one write. After want of memory the first pieces were written, after a failed
-- write those before it.
abbrev pub HasRun : SinkState → SinkState → Outcome → Status → Type 0
HasRun old new outcome NoMemory = WroteFirst old new outcome.pieces
HasRun old new outcome SinkFault = FailedWrite old new outcome.pieces
HasRun old new outcome status = (status ≡ outcome.status) × WroteAll old new outcome.pieces

-- A run of these words: something is found in the folder, and its outcome was written.
pub record IsRun (words : List (List ℕ)) (files : Option Files) (calls : Option Calls) (before now : Faults) (HasMemory : Type 0) (Wrote : Outcome → Type 0) : Type 0 where
  -- the image of this run's reads, or what decided before it was whole
  pub found : Found
  pub finds : IsTrue (reads_folder (command_of words)) → IsFoundBy (wanted_by (command_of words)) files calls found
  -- each fault that it tells was counted in this run
  pub counted : IsTrue (reads_folder (command_of words)) → HasMemory → HasFoundFaults before now found
  -- the text and the status that are meant
  pub outcome : Outcome
  pub means : IsOutcome words found outcome
  pub wrote : Wrote outcome

-- A run of a script, up to an inner answer.
pub record IsScriptRun (path : List ℕ) (steps : ℕ) (files : Option Files) (calls : Option Calls) (before now : Faults) (old new : SinkState) (result : Result Status Stop) : Type 0 where
  pub found : Found
  pub finds : IsFoundBy (Some path) files calls found
  pub counted : (result ≢ Err StopMemory) → HasFoundFaults before now found
  pub outcome : Outcome
  pub means : IsOutcomeOfFound (script path steps) found outcome
  pub wrote : HasWritten old new outcome result

-- The words read the folder, which allows this reading: where it tells its calls, it is their one reading.
pub record HasFolderCause (reading : Reading) (words : List (List ℕ)) (files : Option Files) (calls : Option Calls) : Type 0 where
  pub reads : IsTrue (reads_folder (command_of words))
  pub finds : IsFoundBy (wanted_by (command_of words)) files calls (read reading)

-- no call of the folder failed: its counts stand where they stood, below their last value
pub record NoCallFailed (before now : Faults) : Type 0 where
  pub same : now ≡ before
  pub deciding : before.deciding + 1 < 2 ^ 64
  pub other : before.other + 1 < 2 ^ 64

-- no write failed
pub record NoWriteFailed (old new : SinkState) : Type 0 where
  pub same : new.faults ≡ old.faults
  pub below : old.faults + 1 < 2 ^ 64

-- the status of an outcome whose writes are told by number
abbrev pub status_by_writes : Outcome → Writes → Status
status_by_writes outcome writes = if all_fit outcome.pieces writes then outcome.status else SinkFault
