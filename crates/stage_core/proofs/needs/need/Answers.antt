use Rattle.std.proofs.Common.{arith, ◌≡◌, ◌<◌, ◌-◌, min, length, sym, ap, ◌∙◌, Some}
use Rattle.stage_core.specs.Rows.{log_of}
use Rattle.stage_core.specs.Machine.{outcomes}
use Rattle.stage_core.specs.Stages.{stage_needed}
use Rattle.stage_core.specs.Needs.{outcome_for}
use Rattle.stage_core.proofs.NeedOutcomes.{in_place, needed_pos, not_none}
use Rattle.stage_core.proofs.needs.need.Goals as goal

pub overflow_sub-place : goal.overflow_sub-place
overflow_sub-place g c =
    let at = in_place (outcomes (log_of c.args.rows.now) c.args.other) c.outcome_count.result _ c.outcome_count.ensures (needed_pos c.args.file c.args.stage c.args.other c.requires.above) c.requires.done in
    omega (arith, at.0, c.needed.ensures, c.min-place.ensures)

pub unreachable-requires : goal.unreachable-requires
unreachable-requires g c =
    let os = outcomes (log_of c.args.rows.now) c.args.other in
    let at = in_place os c.outcome_count.result _ c.outcome_count.ensures (needed_pos c.args.file c.args.stage c.args.other c.requires.above) c.requires.done in
    let inside : c.min-place.result - 1 < length os = omega (arith, at.1, c.needed.ensures, c.min-place.ensures) in
    not_none os (c.min-place.result - 1) inside c.in-None.ensures

pub returns-clause-handed : goal.returns-clause-handed
unfolding outcome_for
returns-clause-handed g c =
    let os = outcomes (log_of c.args.rows.now) c.args.other in
    let place : min (length os) (stage_needed c.args.file c.args.stage c.args.other) ≡ c.min-place.result = rw (← c.outcome_count.ensures, ← c.needed.ensures) (sym c.min-place.ensures) in
    rw place (c.in-Some.ensures ∙ ap Some (sym c.in_ok-share-in-Some.ensures))
