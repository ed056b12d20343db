use Rattle.std.proofs.lemmas.Result.{err_from_is_err_and}
use Rattle.host_io.proofs.Pieces.{first_nothing}
use Rattle.gdrun.proofs.write.refuse.Goals as goal

pub returns-in_err-report : goal.returns-in_err-report
returns-in_err-report g c =
    let failed = err_from_is_err_and c.from_residual.result c.from_residual.ensures.1 in
    rw (failed.1, failed.2) (first_nothing _ _)

pub returns-in_err-detail : goal.returns-in_err-detail
returns-in_err-detail g c =
    let failed = err_from_is_err_and c.from_residual-in_err-detail.result c.from_residual-in_err-detail.ensures.1 in
    rw (failed.1, failed.2) (first_nothing _ _)
