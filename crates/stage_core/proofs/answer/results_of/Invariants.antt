use Rattle.std.proofs.Common.{◌≡◌, filter_map, map, take}
use Rattle.stage_core.specs.Rows.{log_of}
use Rattle.stage_core.specs.Load.{result_entry, result_value}
use Rattle.stage_core.proofs.answer.results_of.Given as goal

abbrev pub invariant-loop-file : goal.invariant-loop-file
invariant-loop-file g l = map result_value l.results.items ≡ filter_map (result_entry (log_of l.rows)) (take l.file-index l.files)
