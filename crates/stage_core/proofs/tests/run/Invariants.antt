use Rattle.std.proofs.Common.{◌≡◌}
use Rattle.stage_core.proofs.tests.run.Given as goal

abbrev pub invariant-loop-tasks : goal.invariant-loop-tasks
invariant-loop-tasks g l = record { project : l.core.state.project ≡ g.W.StageWork.project l.work }
