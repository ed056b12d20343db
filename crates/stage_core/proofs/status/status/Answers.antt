use Rattle.std.proofs.Common.{arith, ◌+◌, ◌≡◌, ◌++◌, ◌∷◌, take, drop, refl, sym}
use Rattle.stage_core.specs.Log.{Fault, Block}
use Rattle.stage_core.specs.Rows.{log_of}
use Rattle.stage_core.specs.Machine.{outcomes}
use Rattle.stage_core.proofs.Scan.{scans, log_cut}
use Rattle.stage_core.proofs.Collect.{status_final}
use Rattle.stage_core.proofs.status.status.Goals as goal

pub returns-in-Some-Refused : goal.returns-in-Some-Refused
unfolding outcomes
returns-in-Some-Refused g c =
    let before = outcomes (log_of (take c.loop-row.row-index c.args.rows.now)) c.args.file in
    let rest = outcomes (log_of (drop (c.loop-row.row-index + 1) c.args.rows.now)) c.args.file in
    let cut = log_cut c.args.rows.now c.loop-row.row-index c.row-item.result c.loop-row-test.true c.row-item.is in
    let whole : outcomes (log_of c.args.rows.now) c.args.file ≡ before ++ Fault c.in-Some-Refused.fault ∷ rest = grind (arith, scans) in
    rw whole (sym (status_final before rest (Fault c.in-Some-Refused.fault) c.loop-row.invariant.none_final refl))

pub returns-in-Some-Blocked : goal.returns-in-Some-Blocked
unfolding outcomes
returns-in-Some-Blocked g c =
    let before = outcomes (log_of (take c.loop-row.row-index c.args.rows.now)) c.args.file in
    let rest = outcomes (log_of (drop (c.loop-row.row-index + 1) c.args.rows.now)) c.args.file in
    let cut = log_cut c.args.rows.now c.loop-row.row-index c.row-item.result c.loop-row-test.true c.row-item.is in
    let whole : outcomes (log_of c.args.rows.now) c.args.file ≡ before ++ Block ∷ rest = grind (arith, scans) in
    rw whole (sym (status_final before rest Block c.loop-row.invariant.none_final refl))
