use Rattle.std.proofs.Common.{arith, ◌+◌, ◌≡◌, ◌++◌, ◌∷◌, ◌≤◌, length, take, drop, subst, take_all}
use Rattle.std.proofs.lemmas.Option.{slice_get_past}
use Rattle.stage_core.specs.Log.{value_of}
use Rattle.stage_core.specs.Rows.{log_of}
use Rattle.stage_core.specs.Machine.{outcomes}
use Rattle.stage_core.proofs.Scan.{scans, log_cut}
use Rattle.stage_core.proofs.NeedOutcomes.{slice_get_seam}
use Rattle.stage_core.proofs.needs.outcome_at.Goals as goal

pub returns-then-before-place : goal.returns-then-before-place
unfolding outcomes
returns-then-before-place g c =
    let before = outcomes (log_of (take c.loop-row.row-index c.args.rows.now)) c.args.file in
    let rest = outcomes (log_of (drop (c.loop-row.row-index + 1) c.args.rows.now)) c.args.file in
    let cut = log_cut c.args.rows.now c.loop-row.row-index c.row-item.result c.loop-row-test.true c.row-item.is in
    let whole : outcomes (log_of c.args.rows.now) c.args.file ≡ before ++ value_of c.in-Some.outcome.now ∷ rest = grind (arith, scans) in
    let place : c.args.place ≡ length before = omega (arith, c.loop-row.invariant.count) in
    rw (whole, place) (slice_get_seam before rest (value_of c.in-Some.outcome.now))

pub returns : goal.returns
returns g c =
    slice_get_past _ c.args.place (subst (λ ls. length (outcomes (log_of ls) c.args.file) ≤ c.args.place) (take_all c.loop-row.row-index c.args.rows.now (omega arith)) (omega (arith, c.loop-row.invariant.count)))
