use Rattle.std.proofs.Common.{◌≡◌}
use Rattle.index_lists.proofs.tests.follows_plain_lists.Given as goal

abbrev pub invariant-loop-step : goal.invariant-loop-step
invariant-loop-step g l = l.plain ≡ l.rows.lists
