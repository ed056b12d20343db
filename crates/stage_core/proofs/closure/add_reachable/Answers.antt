use Rattle.std.proofs.Common.{◌∙◌, refl, subst, arith, cond, Contains}
use Rattle.stage_core.specs.Rows.{log_of}
use Rattle.stage_core.specs.Machine.{edges}
use Rattle.stage_core.proofs.Reach.{search_start, search_step, search_end}
use Rattle.stage_core.proofs.closure.add_reachable.Goals as goal

pub loop-at-init : goal.loop-at-init
loop-at-init g c = record { add_reachable = search_start _ _ _ c.requires.visited; capacity = refl }

pub add_files-requires-clause-in_range : goal.add_files-requires-clause-in_range
add_files-requires-clause-in_range g c file there = c.requires.in_range _ file (subst (λ xs. Contains xs file) c.direct_files.ensures there)

pub loop-at-preserved : goal.loop-at-preserved
loop-at-preserved g c =
    let next = edges (cond c.args.by_walk g.O.StageOut.walk g.O.StageOut.links) (log_of c.args.rows.now) in
    let step = search_step next c.args.files c.requires.in_range c.args.visited.now.items c.loop-at.visited.items c.loop-at.at c.index-source.result.now (omega (arith, c.loop-at.visited.ok.0)) c.index-source.ensures c.loop-at.invariant.add_reachable in
    record {
      add_reachable = rw (c.add_files.ensures.after, c.direct_files.ensures) step;
      capacity = c.add_files.ensures.capacity ∙ c.loop-at.invariant.capacity;
    }

pub returns-clause-reached : goal.returns-clause-reached
returns-clause-reached g c b = (c.loop-at.invariant.add_reachable.sound b, search_end _ c.args.files _ _ c.loop-at.at (omega (arith, c.loop-at.visited.ok.0)) c.loop-at.invariant.add_reachable b)
