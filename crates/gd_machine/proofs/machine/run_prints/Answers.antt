use Rattle.std.proofs.Common.{arith, subst}
use Rattle.std.proofs.lemmas.Result.{err_from_is_err_and}
use Rattle.host_io.specs.Pieces.{WroteAll}
use Rattle.gd_machine.proofs.Prints.{so_far, spent_at, wrote_more, print_cut}
use Rattle.gd_machine.proofs.machine.run_prints.Goals as goal

pub loop-print-preserved : goal.loop-print-preserved
loop-print-preserved g c = record {
  used = omega arith;
  within = omega arith;
  written = wrote_more c.args.prints.now c.loop-print.print-index c.print-item.result c.loop-print-test.true c.print-item.is _ _ _ c.loop-print.invariant.written c.in_ok-run_print.ensures;
}

pub returns-then-used-steps-clause-wrote : goal.returns-then-used-steps-clause-wrote
returns-then-used-steps-clause-wrote g c =
    subst (WroteAll _ _) (so_far c.args.prints.now c.loop-print.print-index c.args.steps (omega arith)) c.loop-print.invariant.written

pub returns-then-used-steps-clause-end : goal.returns-then-used-steps-clause-end
returns-then-used-steps-clause-end g c =
    spent_at c.args.prints.now c.loop-print.print-index c.print-item.result c.loop-print-test.true c.print-item.is c.args.steps (omega arith)

pub returns-in_err-run_print-clause-wrote : goal.returns-in_err-run_print-clause-wrote
returns-in_err-run_print-clause-wrote g c =
    let p = err_from_is_err_and c.from_residual.result c.from_residual.ensures.1 in
    rw (p.1, p.2) (print_cut c.args.prints.now c.loop-print.print-index c.print-item.result c.loop-print-test.true c.print-item.is c.args.steps (omega arith) _ _ _ c.in_err-run_print.field-0.0 c.loop-print.invariant.written c.in_err-run_print.ensures)
