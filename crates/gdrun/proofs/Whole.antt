-- What the status of an outcome tells, and the whole run from the inner answers.
use Rattle.std.proofs.Common.{arith, ◌+◌, ◌-◌, ◌^◌, ◌<◌, ◌≤◌, ◌⊎◌, inl, min, ◌≡◌, ◌≢◌, ℕ, true, false, List, refl, subst, ◌∙◌, sym, None, Some, Ok, Err, Result, IsTrue, if◌then◌else◌}
use Rattle.std.specs.Prelude.{codes}
use Rattle.std.specs.declared.option.Option.{Option}
use Rattle.std.specs.FinMap.{find}
use Rattle.host_io.specs.Causes.{Calls, RoseBy}
use Rattle.host_io.specs.Folder.{Files}
use Rattle.host_io.specs.Paths.{path_order}
use Rattle.host_io.specs.Sink.{SinkState, Writes}
use Rattle.host_io.specs.Pieces.{WroteAll, WroteFirst, FailedWrite, IsWrittenOut}
use Rattle.host_io.specs.declared.folder.Faults.{Faults}
use Rattle.host_io.proofs.Pieces.{first_nothing, first_all, told_all, told_failed}
use Rattle.gdrun.specs.FileReading.{FileReading, taken, faulty}
use Rattle.gd_syntax.specs.FirstRun.{RunEnd, ended, spent, run_of}
use Rattle.folder_meaning.specs.Reading.{Reading, image_read, folder_fault, folder_limit}
use Rattle.project_run.specs.Found.{Found, read, other_files, IsFoundBy, found_of, unfailed_found}
use Rattle.project_run.proofs.Whole.{some_found, unfailed_is}
use Rattle.gdrun.specs.declared.status.Status.{Status}
use Rattle.gdrun.specs.declared.status.Status.TheVariants.{Done, Refused, Usage, StepsSpent, FolderFault, SinkFault, NoMemory, FolderLimit}
use Rattle.gdrun.specs.declared.stop.Stop.{Stop}
use Rattle.gdrun.specs.declared.stop.Stop.TheVariants.{NoMemory as StopMemory, SinkFault as StopSink}
use Rattle.gdrun.specs.Words.{Command, no_command, of_folder, FolderCommand, script, command_of, reads_folder, wanted_by}
use Rattle.gdrun.specs.Outcome.{Outcome, one_line, status_of_end, outcome_of_script, IsOutcomeOfFile, IsOutcomeOfReading, IsOutcomeOfFound, IsOutcomeOfCommand, IsOutcome}
use Rattle.gdrun.specs.Run.{HasWritten, HasRun, IsRun, IsScriptRun, HasFolderCause, NoCallFailed, NoWriteFailed, status_by_writes}
use Rattle.gdrun.proofs.Texts.{some_outcome, same_outcome}
use Rattle.gdrun.proofs.Written.{sink_rose}

-- What a status tells: `Usage` that there is no command, a fault or a limit of the folder that it is the reading; the last
-- two are told by no outcome.
abbrev pub Tells : Command → Found → Status → Type 0
Tells asked found Usage = asked ≡ no_command
Tells asked found FolderFault = IsTrue (reads_folder asked) × (found ≡ read folder_fault)
Tells asked found FolderLimit = IsTrue (reads_folder asked) × (found ≡ read folder_limit)
Tells asked found SinkFault = ⊥
Tells asked found NoMemory = ⊥
Tells asked found status = Unit {0}

of_end : (asked : Command) (found : Found) (end : RunEnd) → Tells asked found (status_of_end end)
of_end asked found (ended steps left) = tt
of_end asked found (spent line steps) = tt

of_script : (asked : Command) (found : Found) (path : List ℕ) (steps : ℕ) (reading : FileReading) → Tells asked found (outcome_of_script path steps reading).status
of_script asked found path steps (taken program) = of_end asked found (run_of program steps).end
of_script asked found path steps (faulty fault) = tt

of_file : (asked : Command) (found : Found) (path : List ℕ) (steps : ℕ) (file : Option (Option (List ℕ))) (outcome : Outcome) → IsOutcomeOfFile path steps file outcome → Tells asked found outcome.status
of_file asked found path steps None outcome is = rw is tt
of_file asked found path steps (Some None) outcome is = rw is tt
of_file asked found path steps (Some (Some text)) outcome is = rw is.is (of_script asked found path steps is.reading)

of_reading : (asked : FolderCommand) (reading : Reading) (outcome : Outcome) → IsOutcomeOfReading asked reading outcome → Tells (of_folder asked) (read reading) outcome.status
of_reading asked folder_fault outcome is = rw is (refl, refl)
of_reading asked folder_limit outcome is = rw is (refl, refl)
of_reading (script path steps) (image_read image) outcome is = of_file (of_folder (script path steps)) (read (image_read image)) path steps (find path_order path image) outcome is

of_found : (asked : FolderCommand) (found : Found) (outcome : Outcome) → IsOutcomeOfFound asked found outcome → Tells (of_folder asked) found outcome.status
of_found asked (read reading) outcome is = of_reading asked reading outcome is
of_found (script path steps) other_files outcome is = rw is tt

of_command : (asked : Command) (found : Found) (outcome : Outcome) → IsOutcomeOfCommand asked found outcome → Tells asked found outcome.status
of_command no_command found outcome is = rw is refl
of_command (of_folder asked) found outcome is = of_found asked found outcome is

-- what an inner answer has written is what the whole run has
has_run : (old new : SinkState) (asked : Command) (found : Found) (outcome : Outcome) (status : Status) → Tells asked found status → status ≡ outcome.status → WroteAll old new outcome.pieces → HasRun old new outcome status
has_run old new asked found outcome Done tells same is = (same, is)
has_run old new asked found outcome Refused tells same is = (same, is)
has_run old new asked found outcome Usage tells same is = (same, is)
has_run old new asked found outcome StepsSpent tells same is = (same, is)
has_run old new asked found outcome FolderFault tells same is = (same, is)
has_run old new asked found outcome FolderLimit tells same is = (same, is)
has_run old new asked found outcome NoMemory tells same is = absurd tells
has_run old new asked found outcome SinkFault tells same is = absurd tells

abbrev pub IsInnerRun : List (List ℕ) → Option Files → Option Calls → Faults → Faults → SinkState → SinkState → Result Status Stop → Type 0
IsInnerRun words files calls before now old new r = IsRun words files calls before now (r ≢ Err StopMemory) (λ outcome. HasWritten old new outcome r)

-- the run of a script's command is that of the words
pub of_script_run : (words : List (List ℕ)) (path : List ℕ) (steps : ℕ) (files : Option Files) (calls : Option Calls) (before now : Faults) (old new : SinkState) (r : Result Status Stop) → of_folder (script path steps) ≡ command_of words → IsScriptRun path steps files calls before now old new r → IsInnerRun words files calls before now old new r
of_script_run words path steps files calls before now old new r asked run = record {
  found = run.found;
  finds = rw (← asked) (λ reads. run.finds);
  counted = λ reads memory. run.counted memory;
  outcome = run.outcome;
  means = rw (← asked) run.means;
  wrote = run.wrote;
}

pub no_reads : {asked : Command} → no_command ≡ asked → IsTrue (reads_folder asked) → ⊥
no_reads none reads = let at : false ≡ true = rw (← none) at reads in cc

-- words that are no command
pub usage_run : (words : List (List ℕ)) (files : Option Files) (calls : Option Calls) (before now : Faults) (old new : SinkState) (r : Result Status Stop) → no_command ≡ command_of words → HasWritten old new (one_line (codes "gdrun: bad command") Usage) r → IsInnerRun words files calls before now old new r
usage_run words files calls before now old new r asked wrote = record {
  found = other_files;
  finds = λ reads. absurd (no_reads asked reads);
  counted = λ reads memory. absurd (no_reads asked reads);
  outcome = one_line (codes "gdrun: bad command") Usage;
  means = rw (← asked) refl;
  wrote = wrote;
}

-- where memory ran out before anything was read or written
pub some_run : (words : List (List ℕ)) (files : Option Files) (calls : Option Calls) (before now : Faults) (old : SinkState) → IsInnerRun words files calls before now old old (Err StopMemory)
some_run words files calls before now old =
    let found = some_found (wanted_by (command_of words)) files calls in
    let outcome = some_outcome words found.0 in
    record {
      found = found.0;
      finds = λ asked. found.1;
      counted = λ asked memory. absurd (memory refl);
      outcome = outcome.0;
      means = outcome.1;
      wrote = first_nothing old outcome.0.pieces;
    }

-- words that read nothing have one outcome, whatever is found
same_unread : (asked : Command) (one other : Found) (outcome : Outcome) → (IsTrue (reads_folder asked) → one ≡ other) → IsOutcomeOfCommand asked other outcome → IsOutcomeOfCommand asked one outcome
same_unread no_command one other outcome same is = is
same_unread (of_folder asked) one other outcome same is = rw (same refl) is

-- a run whose outcome is that of this find
module _ (words : List (List ℕ)) (told : Option Files) (calls : Option Calls) (before now : Faults) (HasMemory : Type 0) (Wrote : Outcome → Type 0) (run : IsRun words told calls before now HasMemory Wrote) where
  of_same : (found : Found) → (IsTrue (reads_folder (command_of words)) → run.found ≡ found) → (outcome : Outcome) → IsOutcome words found outcome → Wrote outcome
  of_same found same outcome means =
      let other = same_unread (command_of words) run.found found outcome same means in
      subst Wrote (same_outcome words run.found run.outcome outcome run.means other) run.wrote

  -- where files and calls are told, the outcome is that of the one thing that is found
  pub of_told : (files : Files) (numbers : Calls) → told ≡ Some files → calls ≡ Some numbers → (outcome : Outcome) → IsOutcome words (found_of (wanted_by (command_of words)) files numbers) outcome → Wrote outcome
  of_told files numbers files_told calls_told outcome means =
      let finds = rw (files_told, calls_told) at run.finds in
      of_same (found_of (wanted_by (command_of words)) files numbers) finds outcome means

  -- where no call failed, it is that of the files
  pub of_unfailed : HasMemory → (files : Files) → told ≡ Some files → NoCallFailed before now → (outcome : Outcome) → IsOutcome words (unfailed_found (wanted_by (command_of words)) files) outcome → Wrote outcome
  of_unfailed memory files files_told none outcome means =
      let finds = rw files_told at run.finds in
      of_same (unfailed_found (wanted_by (command_of words)) files) (λ reads. unfailed_is (wanted_by (command_of words)) files before now none.same none.deciding none.other calls run.found (finds reads) (run.counted reads memory)) outcome means

module _ (words : List (List ℕ)) (files : Option Files) (calls : Option Calls) (before now : Faults) (old new : SinkState) (status : Status) (run : IsInnerRun words files calls before now old new (Ok status)) where
  told : Tells (command_of words) run.found status
  told = rw run.wrote.0 (of_command (command_of words) run.found run.outcome run.means)

  pub headline : IsRun words files calls before now (status ≢ NoMemory) (λ outcome. HasRun old new outcome status)
  headline = record {
    found = run.found;
    finds = run.finds;
    counted = λ asked memory. run.counted asked (λ e. cc);
    outcome = run.outcome;
    means = run.means;
    wrote = has_run old new (command_of words) run.found run.outcome status told run.wrote.0 run.wrote.1;
  }

  pub usage_cause : status ≡ Usage → command_of words ≡ no_command
  usage_cause is = rw is at told

  pub folder_fault_cause : status ≡ FolderFault → HasFolderCause folder_fault words files calls × RoseBy 1 before.deciding now.deciding
  folder_fault_cause is =
      let t : IsTrue (reads_folder (command_of words)) × (run.found ≡ read folder_fault) = rw is at told in
      (record { reads = t.0; finds = rw t.1 at (run.finds t.0) }, rw t.1 at (run.counted t.0 (λ e. cc)))

  pub folder_limit_cause : status ≡ FolderLimit → HasFolderCause folder_limit words files calls
  folder_limit_cause is =
      let t : IsTrue (reads_folder (command_of words)) × (run.found ≡ read folder_limit) = rw is at told in
      record { reads = t.0; finds = rw t.1 at (run.finds t.0) }

  pub no_sink_fault : status ≡ SinkFault → ⊥
  no_sink_fault is = rw is at told

  pub ok_kept : new.faults ≡ old.faults
  ok_kept = run.wrote.1.faults

  -- no call and no write failed
  pub completed : (all : Files) → files ≡ Some all → NoCallFailed before now → (outcome : Outcome) → IsOutcome words (unfailed_found (wanted_by (command_of words)) all) outcome → (status ≡ outcome.status) × WroteAll old new outcome.pieces
  completed all files_told none outcome means = of_unfailed words files calls before now (Ok status ≢ Err StopMemory) (λ o. (status ≡ o.status) × WroteAll old new o.pieces) run (λ e. cc) all files_told none outcome means

-- a failed write was counted
pub not_failed : (words : List (List ℕ)) (files : Option Files) (calls : Option Calls) (before now : Faults) (old new : SinkState) → IsInnerRun words files calls before now old new (Err StopSink) → NoWriteFailed old new → ⊥
not_failed words files calls before now old new run none =
    let rose : min (old.faults + 1) (2 ^ 64 - 1) ≤ new.faults = sink_rose old new run.outcome.pieces run.wrote in
    let same = none.same in
    let below = none.below in
    omega arith

pub run_rose : (words : List (List ℕ)) (files : Option Files) (calls : Option Calls) (before now : Faults) (old new : SinkState) → IsInnerRun words files calls before now old new (Err StopSink) → RoseBy 1 old.faults new.faults
run_rose words files calls before now old new run = sink_rose old new run.outcome.pieces run.wrote

-- no failed write was counted where memory ran out
pub memory_kept : (words : List (List ℕ)) (files : Option Files) (calls : Option Calls) (before now : Faults) (old new : SinkState) → IsInnerRun words files calls before now old new (Err StopMemory) → new.faults ≡ old.faults
memory_kept words files calls before now old new run = run.wrote.wrote.faults

-- ---- a sink in memory

module _ (old new : SinkState) (w : Writes) (numbered : old.writes ≡ Some w) (outcome : Outcome) where
  all_written : (status : Status) → (status ≡ outcome.status) × WroteAll old new outcome.pieces → (status ≡ status_by_writes outcome w) × IsWrittenOut w outcome.pieces old new
  all_written status run =
      let all = told_all old new outcome.pieces w numbered run.1 in
      (rw all.0 run.0, all.1)

  pub in_memory : (status : Status) → HasRun old new outcome status → (status ≢ NoMemory) → (status ≡ status_by_writes outcome w) × IsWrittenOut w outcome.pieces old new
  in_memory Done run memory = all_written Done run
  in_memory Refused run memory = all_written Refused run
  in_memory Usage run memory = all_written Usage run
  in_memory StepsSpent run memory = all_written StepsSpent run
  in_memory FolderFault run memory = all_written FolderFault run
  in_memory FolderLimit run memory = all_written FolderLimit run
  in_memory NoMemory run memory = absurd (memory refl)
  in_memory SinkFault run memory =
      let failed = told_failed old new outcome.pieces w numbered run in
      (rw failed.0 refl, failed.1)

pub memory_ran_out : (old new : SinkState) (outcome : Outcome) (status : Status) → HasRun old new outcome status → status ≡ NoMemory → WroteFirst old new outcome.pieces
memory_ran_out old new outcome status run is = rw is at run
