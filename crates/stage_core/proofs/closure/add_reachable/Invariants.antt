use Rattle.std.proofs.Common.{◌≡◌, ◌-◌, cond, vec_capacity}
use Rattle.stage_core.specs.Rows.{log_of}
use Rattle.stage_core.specs.Machine.{edges}
use Rattle.stage_core.proofs.Reach.{IsSearch}
use Rattle.stage_core.proofs.closure.add_reachable.Given as goal

abbrev pub invariant-loop-at : goal.invariant-loop-at
invariant-loop-at g l = record {
  add_reachable : IsSearch (edges (cond l.by_walk g.O.StageOut.walk g.O.StageOut.links) (log_of l.rows)) l.files l.initial.visited.items l.visited.items l.at;
  capacity : vec_capacity l.visited ≡ vec_capacity l.initial.visited;
}

abbrev pub decreases-loop-at : goal.decreases-loop-at
decreases-loop-at g l = l.files - l.at
