use Rattle.std.proofs.Common.{◌≡◌, filter}
use Rattle.stage_core.specs.FileSets.{is_in, files_below}
use Rattle.stage_core.proofs.answer.in_order.Given as goal

abbrev pub invariant-loop-file : goal.invariant-loop-file
invariant-loop-file l = l.ordered.items ≡ filter (λ file. is_in file l.set) (files_below l.file)
