use Rattle.std.proofs.Common.{arith, ◌≡◌, replicate}
use Rattle.stage_core.proofs.CoreSteps.{held_start}
use Rattle.stage_core.proofs.engine.Core.new.Goals as goal

pub invariant_of-result : goal.invariant_of-result
invariant_of-result g c =
    let rows : c.in_ok-in_progress.in_progress.items ≡ replicate c.args.files 0 = c.in_ok-in_progress.ensures.items_if_clones_equal (λ y e. e) in
    rw (c.of.ensures, c.in_ok-rows.ensures.items, rows) (held_start g.O.StageOut c.args.project.now c.args.files _ _ _ c.requires (omega (arith, c.in_ok-rows.ensures.capacity)) (omega (arith, c.in_ok-known.ensures.capacity)) (omega (arith, c.in_ok-visited.ensures.capacity)))
