use Rattle.std.proofs.Common.{Ok, Err}
use Rattle.std.proofs.lemmas.Result.{err_from_is_err_and}
use Rattle.host_io.proofs.Pieces.{is_write, failed_at}
use Rattle.gdrun.proofs.write.write_piece.Goals as goal

pub returns : goal.returns
returns g c =
    let e = c.in_ok-write_all.ensures in
    rw (← c.as_bytes.ensures.value) (is_write _ _ c.as_bytes.result.now (Ok tt) e.takes e.cause e.number e.numbered e.untouched)

pub returns-in_err-write_all : goal.returns-in_err-write_all
returns-in_err-write_all g c =
    let p = err_from_is_err_and c.from_residual.result c.from_residual.ensures.1 in
    let e = c.in_err-write_all.ensures in
    rw (p.1, p.2, ← c.as_bytes.ensures.value) (failed_at _ _ c.as_bytes.result.now _ (is_write {T = Unit {0}} _ _ c.as_bytes.result.now (Err c.in_err-write_all.field-0.0) e.takes e.cause e.number e.numbered e.untouched))
