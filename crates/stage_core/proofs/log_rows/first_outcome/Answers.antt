use Rattle.std.proofs.Common.{arith}
use Rattle.stage_core.specs.Machine.{outcomes}
use Rattle.stage_core.proofs.Scan.{scans, log_cut}
use Rattle.stage_core.proofs.log_rows.first_outcome.Goals as goal

pub returns-in-Some : goal.returns-in-Some
unfolding outcomes
returns-in-Some g c =
    let cut = log_cut c.args.rows.now c.loop-row.row-index c.row-item.result c.loop-row-test.true c.row-item.is in
    grind (arith, scans)
