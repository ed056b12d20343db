use Rattle.std.proofs.Common.{Ok, Err}
use Rattle.std.proofs.lemmas.Result.{err_from_is_err_and}
use Rattle.host_io.proofs.Pieces.{is_write, failed_at}
use Rattle.gd_machine.proofs.machine.write_piece.Goals as goal

pub returns : goal.returns
returns g c =
    let e = c.in_ok-write_all.ensures in
    is_write _ _ c.args.piece.now (Ok tt) e.takes e.cause e.number e.numbered e.untouched

pub returns-in_err-write_all : goal.returns-in_err-write_all
returns-in_err-write_all g c =
    let p = err_from_is_err_and c.from_residual.result c.from_residual.ensures.1 in
    let e = c.in_err-write_all.ensures in
    rw (p.1, p.2) (failed_at _ _ c.args.piece.now _ (is_write {T = Unit {0}} _ _ c.args.piece.now (Err c.in_err-write_all.field-0.0) e.takes e.cause e.number e.numbered e.untouched))
