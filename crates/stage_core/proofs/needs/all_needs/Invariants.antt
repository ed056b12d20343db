use Rattle.std.proofs.Common.{◌≡◌, map, take, All}
use Rattle.stage_core.specs.Rows.{log_of}
use Rattle.stage_core.specs.Needs.{IsNeedOutcome}
use Rattle.stage_core.proofs.needs.all_needs.Given as goal

abbrev pub invariant-loop-other : goal.invariant-loop-other
invariant-loop-other g l = record {
  of : map (λ n. n.file) l.needs.items ≡ take l.other-index l.others;
  handed : All (IsNeedOutcome (log_of l.rows) l.file l.stage) l.needs.items;
}
