use Rattle.std.proofs.Common.{arith}
use Rattle.stage_core.specs.Machine.{outcomes, has_final}
use Rattle.stage_core.proofs.Scan.{scans, log_cut}
use Rattle.stage_core.proofs.log_rows.has_final.Goals as goal

pub returns-then-is_final : goal.returns-then-is_final
unfolding outcomes has_final
returns-then-is_final g c =
    let cut = log_cut c.args.rows.now c.loop-row.row-index c.row-item.result c.loop-row-test.true c.row-item.is in
    grind (arith, scans)
