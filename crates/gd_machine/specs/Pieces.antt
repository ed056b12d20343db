-- What a run prints, piece by piece.
use Rattle.std.specs.Prelude.{ℕ, ◌-◌, List, map, take, Result}
use Rattle.std.specs.declared.result.Result.TheVariants.{Ok, Err}
use Rattle.host_io.specs.Sink.{SinkState}
use Rattle.host_io.specs.Pieces.{WroteAll, WroteFirst, FailedWrite}
use Rattle.gd_syntax.specs.FirstTree.{Script}
use Rattle.gd_syntax.specs.FirstRun.{print_text}
use Rattle.gd_machine.specs.declared.machine.Stop.{Stop}
use Rattle.gd_machine.specs.declared.machine.Stop.TheVariants.{SinkFault, NoMemory}

-- each statement that has a step prints its text as one piece
abbrev pub printed_pieces : Script → ℕ → List (List ℕ)
printed_pieces script allowed = map print_text (take (allowed - 1) script)

-- an inner call that stopped has written the first of these pieces
abbrev pub HasStopped : SinkState → SinkState → List (List ℕ) → Stop → Type 0
HasStopped old new pieces SinkFault = FailedWrite old new pieces
HasStopped old new pieces NoMemory = WroteFirst old new pieces

-- an inner call has written these pieces, or the first of them
abbrev pub HasPut : {T : Type 0} → SinkState → SinkState → List (List ℕ) → Result T Stop → Type 0
HasPut old new pieces (Ok _) = WroteAll old new pieces
HasPut old new pieces (Err stop) = HasStopped old new pieces stop
