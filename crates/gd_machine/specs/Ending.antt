-- What a machine did, by the run that its script means.
use Rattle.std.specs.Prelude.{◌≡◌, ℕ, List, [], Bool, true, false}
use Rattle.host_io.specs.Sink.{SinkState}
use Rattle.host_io.specs.Pieces.{WroteAll, WroteFirst, FailedWrite}
use Rattle.gd_syntax.specs.FirstTree.{Script}
use Rattle.gd_syntax.specs.FirstRun.{run_of, ended, spent, end_line}
use Rattle.gd_machine.specs.Pieces.{printed_pieces}
use Rattle.gd_machine.specs.declared.machine.Ending.{Ending}
use Rattle.gd_machine.specs.declared.machine.Ending.TheVariants.{Ended, StepsSpent, SinkFault, NoMemory}

-- The run of the script at this path within an allowance of steps: with an end that is told, all its pieces were
-- written, and else the first of them.
abbrev pub HasRun : List ℕ → Script → ℕ → SinkState → SinkState → Ending → Type 0
HasRun path script allowed old new (Ended steps left) = ((run_of script allowed).end ≡ ended steps left) × WroteAll old new (printed_pieces script allowed)
HasRun path script allowed old new (StepsSpent at steps) = ((run_of script allowed).end ≡ spent at.line steps) × (at.path ≡ path) × WroteAll old new (printed_pieces script allowed)
HasRun path script allowed old new SinkFault = FailedWrite old new (printed_pieces script allowed)
HasRun path script allowed old new NoMemory = WroteFirst old new (printed_pieces script allowed)

-- the run ended in a way that its script means, and not for want of memory or by a failed write
abbrev pub is_told : Ending → Bool
is_told (Ended steps left) = true
is_told (StepsSpent at steps) = true
is_told SinkFault = false
is_told NoMemory = false

-- the outcome line of an end that is told
abbrev pub ending_text : Ending → List ℕ
ending_text (Ended steps left) = end_line [] (ended steps left)
ending_text (StepsSpent at steps) = end_line at.path (spent at.line steps)
ending_text SinkFault = []
ending_text NoMemory = []
