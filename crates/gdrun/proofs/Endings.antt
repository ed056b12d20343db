-- The outcome line of a run, by the run that its script means.
use Rattle.std.proofs.Common.{◌≡◌, ℕ, List, ◌∷◌, [], Result, IsTrue}
use Rattle.host_io.specs.Sink.{SinkState}
use Rattle.gd_syntax.specs.FirstTree.{Script}
use Rattle.gd_machine.specs.Pieces.{printed_pieces}
use Rattle.gd_machine.specs.declared.machine.Ending.{Ending}
use Rattle.gd_machine.specs.declared.machine.Ending.TheVariants.{Ended, StepsSpent, SinkFault, NoMemory}
use Rattle.gd_machine.specs.Ending.{HasRun, is_told, ending_text}
use Rattle.gdrun.specs.declared.status.Status.{Status}
use Rattle.gdrun.specs.declared.stop.Stop.{Stop}
use Rattle.gdrun.specs.Outcome.{outcome_of_run}
use Rattle.gdrun.specs.Run.{HasWritten}
use Rattle.gdrun.specs.Told.{status_of_ending}
use Rattle.gdrun.proofs.Written.{written_then}

-- what a run printed, and then its outcome line
pub finished : (path : List ℕ) (steps : ℕ) (script : Script) (old mid new : SinkState) (ending : Ending) (r : Result Status Stop) → IsTrue (is_told ending) → HasRun path script steps old mid ending → HasWritten mid new (record { pieces = ending_text ending ∷ []; status = status_of_ending ending }) r → HasWritten old new (outcome_of_run path steps script) r
finished path steps script old mid new (Ended taken left) r told has wrote =
    let whole = written_then old mid new (printed_pieces script steps) _ _ r has.1 wrote in
    rw has.0 whole
finished path steps script old mid new (StepsSpent at allowed) r told has wrote =
    let whole = written_then old mid new (printed_pieces script steps) _ _ r has.2 wrote in
    rw (has.0, ← has.1) whole
finished path steps script old mid new SinkFault r told has wrote = cc
finished path steps script old mid new NoMemory r told has wrote = cc
