use Rattle.std.proofs.Common.{arith}
use Rattle.stage_core.specs.Machine.{is_claimed}
use Rattle.stage_core.proofs.Scan.{scans, log_cut}
use Rattle.stage_core.proofs.log_rows.has_claim.Goals as goal

pub returns-then-is_claim_of : goal.returns-then-is_claim_of
unfolding is_claimed
returns-then-is_claim_of g c =
    let cut = log_cut c.args.rows.now c.loop-row.row-index c.row-item.result c.loop-row-test.true c.row-item.is in
    grind (arith, scans)
