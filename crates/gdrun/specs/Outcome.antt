-- What a run writes and answers, by the words and by what is found in the folder. The first line that applies decides:
--
-- 1. the words are no command;
-- 2. the folder could not be read whole: `folder fault`, `folder limit`, for every command that reads the folder;
-- 3. a requested path is missing, or its load has faults: the report of the load;
-- 4. the text of the run and its outcome line.
use Rattle.std.specs.Prelude.{◌≡◌, ℕ, List, [], ◌∷◌, ◌++◌, codes}
use Rattle.std.specs.FinMap.{find}
use Rattle.std.specs.declared.option.Option.{Option}
use Rattle.std.specs.declared.option.Option.TheVariants.{None, Some}
use Rattle.host_io.specs.Paths.{path_order}
use Rattle.host_io.specs.Pieces.{joined}
use Rattle.gd_syntax.specs.declared.fault.LoadFault.{LoadFault}
use Rattle.gd_syntax.specs.declared.fault.FaultKind.TheVariants.{Unreadable, Unbuilt}
use Rattle.gd_syntax.specs.FirstTree.{Script}
use Rattle.gd_syntax.specs.FirstRun.{RunEnd, ended, spent, run_of, end_line}
use Rattle.gd_machine.specs.Pieces.{printed_pieces}
use Rattle.folder_meaning.specs.Image.{Image}
use Rattle.folder_meaning.specs.Reading.{Reading, image_read, folder_fault, folder_limit}
use Rattle.project_run.specs.Found.{Found, read, other_files}
use Rattle.gdrun.specs.declared.status.Status.{Status}
use Rattle.gdrun.specs.declared.status.Status.TheVariants.{Done, Refused, Usage, StepsSpent, FolderFault, FolderLimit}
use Rattle.gdrun.specs.FileReading.{FileReading, taken, faulty, IsFileReading}
use Rattle.gdrun.specs.Report.{Verdict, missing, refused, report}
use Rattle.gdrun.specs.Words.{Command, no_command, of_folder, FolderCommand, script, command_of}

-- the pieces of the text, each of which is one write, and the status
pub record Outcome : Type 0 where
  pub pieces : List (List ℕ)
  pub status : Status

-- the text that is written
abbrev pub text_of : Outcome → List ℕ
text_of outcome = joined outcome.pieces

abbrev pub one_line : List ℕ → Status → Outcome
one_line text status = record { pieces = (text ++ codes "\n") ∷ []; status = status }

-- the report of a load that is refused
abbrev pub refusal : List (List ℕ × Verdict) → Outcome
refusal requests = record { pieces = report requests; status = Refused }

-- one path is requested, and its own file alone has a fault
abbrev pub file_refusal : List ℕ → LoadFault → Outcome
file_refusal path fault = refusal ((path, refused ((path, fault) ∷ [])) ∷ [])

-- a fault of the file as a whole
abbrev pub unreadable_file : LoadFault
unreadable_file = record { kind = Unreadable; place = record { line = 0; column = 0 } }

abbrev pub unbuilt_file : LoadFault
unbuilt_file = record { kind = Unbuilt; place = record { line = 0; column = 0 } }

abbrev pub status_of_end : RunEnd → Status
status_of_end (ended steps left) = Done
status_of_end (spent line steps) = StepsSpent

-- what the script at this path prints within an allowance of steps, and the outcome line
abbrev pub outcome_of_run : List ℕ → ℕ → Script → Outcome
outcome_of_run path steps program = record {
  pieces = printed_pieces program steps ++ end_line path (run_of program steps).end ∷ [];
  status = status_of_end (run_of program steps).end;
}

-- a script that was read so
abbrev pub outcome_of_script : List ℕ → ℕ → FileReading → Outcome
outcome_of_script path steps (taken program) = outcome_of_run path steps program
outcome_of_script path steps (faulty fault) = file_refusal path fault

-- the outcome of the text of a script
pub record IsOutcomeOfText (path : List ℕ) (steps : ℕ) (text : List ℕ) (outcome : Outcome) : Type 0 where
  pub reading : FileReading
  pub read : IsFileReading text reading
  pub is : outcome ≡ outcome_of_script path steps reading

-- the outcome of a requested script, by what the image has at its path
abbrev pub IsOutcomeOfFile : List ℕ → ℕ → Option (Option (List ℕ)) → Outcome → Type 0
IsOutcomeOfFile path steps None outcome = outcome ≡ refusal ((path, missing) ∷ [])
IsOutcomeOfFile path steps (Some None) outcome = outcome ≡ file_refusal path unreadable_file
IsOutcomeOfFile path steps (Some (Some text)) outcome = IsOutcomeOfText path steps text outcome

-- the outcome of a command on an image
abbrev pub IsOutcomeOfImage : FolderCommand → Image → Outcome → Type 0
IsOutcomeOfImage (script path steps) image outcome = IsOutcomeOfFile path steps (find path_order path image) outcome

-- the outcome of any command that reads a folder, by its reading
abbrev pub IsOutcomeOfReading : FolderCommand → Reading → Outcome → Type 0
IsOutcomeOfReading asked folder_fault outcome = outcome ≡ one_line (codes "folder fault") FolderFault
IsOutcomeOfReading asked folder_limit outcome = outcome ≡ one_line (codes "folder limit") FolderLimit
IsOutcomeOfReading asked (image_read image) outcome = IsOutcomeOfImage asked image outcome

-- The same by what is found. That other files are found is `script`'s own case.
abbrev pub IsOutcomeOfFound : FolderCommand → Found → Outcome → Type 0
IsOutcomeOfFound asked (read reading) outcome = IsOutcomeOfReading asked reading outcome
IsOutcomeOfFound (script path steps) other_files outcome = outcome ≡ file_refusal path unbuilt_file

abbrev pub IsOutcomeOfCommand : Command → Found → Outcome → Type 0
IsOutcomeOfCommand no_command found outcome = outcome ≡ one_line (codes "gdrun: bad command") Usage
IsOutcomeOfCommand (of_folder asked) found outcome = IsOutcomeOfFound asked found outcome

-- the whole meaning of a run
abbrev pub IsOutcome : List (List ℕ) → Found → Outcome → Type 0
IsOutcome words found outcome = IsOutcomeOfCommand (command_of words) found outcome
