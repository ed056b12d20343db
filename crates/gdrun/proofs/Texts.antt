-- Each text, file and reading has an outcome, and one only.
use Rattle.std.proofs.Common.{◌≡◌, ◌∙◌, ℕ, List, refl, sym, ap, None, Some, Err, Result}
use Rattle.std.specs.declared.option.Option.{Option}
use Rattle.std.specs.FinMap.{find}
use Rattle.host_io.specs.Paths.{path_order}
use Rattle.host_io.specs.Sink.{SinkState}
use Rattle.host_io.proofs.Pieces.{first_nothing}
use Rattle.gd_syntax.specs.declared.fault.SolveError.{SolveError}
use Rattle.gd_syntax.specs.declared.fault.SolveError.TheVariants.{Fault, NoMemory}
use Rattle.gdrun.specs.FileReading.{faulty, IsRead}
use Rattle.gdrun.proofs.Files.{some_file_reading, same_file_reading}
use Rattle.gdrun.specs.declared.status.Status.{Status}
use Rattle.gdrun.specs.declared.stop.Stop.{Stop}
use Rattle.gdrun.specs.declared.stop.Stop.TheVariants.{NoMemory as StopMemory}
use Rattle.gdrun.specs.Run.{HasWrittenSome, HasRefused, IsScriptRun}
use Rattle.project_run.proofs.Whole.{some_found}
use Rattle.host_io.specs.Causes.{Calls}
use Rattle.host_io.specs.Folder.{Files}
use Rattle.host_io.specs.declared.folder.Faults.{Faults}
use Rattle.folder_meaning.specs.Reading.{Reading, image_read, folder_fault, folder_limit}
use Rattle.project_run.specs.Found.{Found, read, other_files}
use Rattle.gdrun.specs.Words.{Command, no_command, of_folder, FolderCommand, script, command_of}
use Rattle.gdrun.specs.Outcome.{Outcome, file_refusal, outcome_of_script, IsOutcomeOfText, IsOutcomeOfFile, IsOutcomeOfReading, IsOutcomeOfFound, IsOutcomeOfCommand, IsOutcome}

pub some_text : (path : List ℕ) (steps : ℕ) (text : List ℕ) → (outcome : Outcome) × IsOutcomeOfText path steps text outcome
some_text path steps text =
    let some = some_file_reading text in
    (outcome_of_script path steps some.0, record { reading = some.0; read = some.1; is = refl })

-- a text that is refused has the report for its outcome
pub refused_text : (path : List ℕ) (steps : ℕ) (text : List ℕ) (error : SolveError) (old new : SinkState) (r : Result Status Stop) → IsRead text (Err error) → HasRefused path error old new r → HasWrittenSome (IsOutcomeOfText path steps text) old new r
refused_text path steps text (Fault fault) old new r reads wrote = record {
  outcome = file_refusal path fault;
  means = record { reading = faulty fault; read = reads; is = refl };
  wrote = wrote;
}
refused_text path steps text NoMemory old new r reads wrote =
    let some = some_text path steps text in
    record { outcome = some.0; means = some.1; wrote = rw (wrote.0, wrote.1) (first_nothing old some.0.pieces) }

same_text : (path : List ℕ) (steps : ℕ) (text : List ℕ) (a b : Outcome) → IsOutcomeOfText path steps text a → IsOutcomeOfText path steps text b → a ≡ b
same_text path steps text a b left right =
    left.is ∙ ap (outcome_of_script path steps) (same_file_reading text left.reading right.reading left.read right.read) ∙ sym right.is

some_file : (path : List ℕ) (steps : ℕ) (file : Option (Option (List ℕ))) → (outcome : Outcome) × IsOutcomeOfFile path steps file outcome
some_file path steps None = (_, refl)
some_file path steps (Some None) = (_, refl)
some_file path steps (Some (Some text)) = some_text path steps text

same_file : (path : List ℕ) (steps : ℕ) (file : Option (Option (List ℕ))) (a b : Outcome) → IsOutcomeOfFile path steps file a → IsOutcomeOfFile path steps file b → a ≡ b
same_file path steps None a b left right = left ∙ sym right
same_file path steps (Some None) a b left right = left ∙ sym right
same_file path steps (Some (Some text)) a b left right = same_text path steps text a b left right

some_reading : (asked : FolderCommand) (reading : Reading) → (outcome : Outcome) × IsOutcomeOfReading asked reading outcome
some_reading asked folder_fault = (_, refl)
some_reading asked folder_limit = (_, refl)
some_reading (script path steps) (image_read image) = some_file path steps (find path_order path image)

same_reading : (asked : FolderCommand) (reading : Reading) (a b : Outcome) → IsOutcomeOfReading asked reading a → IsOutcomeOfReading asked reading b → a ≡ b
same_reading asked folder_fault a b left right = left ∙ sym right
same_reading asked folder_limit a b left right = left ∙ sym right
same_reading (script path steps) (image_read image) a b left right = same_file path steps (find path_order path image) a b left right

some_of_found : (asked : FolderCommand) (found : Found) → (outcome : Outcome) × IsOutcomeOfFound asked found outcome
some_of_found asked (read reading) = some_reading asked reading
some_of_found (script path steps) other_files = (_, refl)

same_of_found : (asked : FolderCommand) (found : Found) (a b : Outcome) → IsOutcomeOfFound asked found a → IsOutcomeOfFound asked found b → a ≡ b
same_of_found asked (read reading) a b left right = same_reading asked reading a b left right
same_of_found (script path steps) other_files a b left right = left ∙ sym right

some_command : (asked : Command) (found : Found) → (outcome : Outcome) × IsOutcomeOfCommand asked found outcome
some_command no_command found = (_, refl)
some_command (of_folder asked) found = some_of_found asked found

same_command : (asked : Command) (found : Found) (a b : Outcome) → IsOutcomeOfCommand asked found a → IsOutcomeOfCommand asked found b → a ≡ b
same_command no_command found a b left right = left ∙ sym right
same_command (of_folder asked) found a b left right = same_of_found asked found a b left right

pub some_outcome : (words : List (List ℕ)) (found : Found) → (outcome : Outcome) × IsOutcome words found outcome
some_outcome words found = some_command (command_of words) found

pub same_outcome : (words : List (List ℕ)) (found : Found) (a b : Outcome) → IsOutcome words found a → IsOutcome words found b → a ≡ b
same_outcome words found a b left right = same_command (command_of words) found a b left right

-- Where memory ran out before anything was written, the run is that of anything that the folder lets find.
pub some_script_run : (path : List ℕ) (steps : ℕ) (files : Option Files) (calls : Option Calls) (before now : Faults) (old : SinkState) → IsScriptRun path steps files calls before now old old (Err StopMemory)
some_script_run path steps files calls before now old =
    let found = some_found (Some path) files calls in
    let outcome = some_of_found (script path steps) found.0 in
    record {
      found = found.0;
      finds = found.1;
      counted = λ memory. absurd (memory refl);
      outcome = outcome.0;
      means = outcome.1;
      wrote = first_nothing old outcome.0.pieces;
    }
