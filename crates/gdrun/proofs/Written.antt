-- Pieces that are written one after the other, up to an inner answer.
use Rattle.std.proofs.Common.{◌≡◌, ℕ, List, ◌++◌, Ok, Err, Result}
use Rattle.host_io.specs.Causes.{RoseBy}
use Rattle.host_io.specs.Sink.{SinkState}
use Rattle.host_io.specs.Pieces.{WroteAll, FailedWrite}
use Rattle.host_io.proofs.Pieces.{wrote_then, failed_then, failed_more, first_then, first_more}
use Rattle.gdrun.specs.declared.status.Status.{Status}
use Rattle.gdrun.specs.declared.stop.Stop.{Stop}
use Rattle.gdrun.specs.declared.stop.Stop.TheVariants.{NoMemory, SinkFault}
use Rattle.gdrun.specs.Run.{HasWritten, HasStopped}

-- the first pieces were written, and then an inner answer to the rest
pub written_then : (old mid new : SinkState) (first rest : List (List ℕ)) (status : Status) (r : Result Status Stop) → WroteAll old mid first → HasWritten mid new (record { pieces = rest; status = status }) r → HasWritten old new (record { pieces = first ++ rest; status = status }) r
written_then old mid new first rest status (Ok answer) is wrote = (wrote.0, wrote_then old mid new first rest is wrote.1)
written_then old mid new first rest status (Err SinkFault) is failed = failed_then old mid new first rest is failed
written_then old mid new first rest status (Err NoMemory) is stopped = first_then old mid new first rest is stopped

-- an inner call that stopped among the first pieces
pub stopped_more : (old new : SinkState) (first rest : List (List ℕ)) (stop : Stop) → HasStopped old new first stop → HasStopped old new (first ++ rest) stop
stopped_more old new first rest SinkFault failed = failed_more old new first rest failed
stopped_more old new first rest NoMemory stopped = first_more old new first rest stopped

-- a failed write was counted
pub sink_rose : (old new : SinkState) (pieces : List (List ℕ)) → FailedWrite old new pieces → RoseBy 1 old.faults new.faults
sink_rose old new pieces failed = rw failed.wrote.faults at failed.failed.faults
