use Rattle.std.proofs.Common.{◌≡◌, filter_map, take}
use Rattle.stage_core.specs.Rows.{log_of}
use Rattle.stage_core.specs.Load.{fault_entry}
use Rattle.stage_core.proofs.answer.faults_of.Given as goal

abbrev pub invariant-loop-file : goal.invariant-loop-file
invariant-loop-file g l = l.faults.items ≡ filter_map (fault_entry (log_of l.rows)) (take l.file-index l.files)
