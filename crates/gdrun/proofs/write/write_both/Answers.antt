use Rattle.std.proofs.Common.{◌∷◌, []}
use Rattle.std.proofs.lemmas.Result.{err_from_is_err_and}
use Rattle.gdrun.proofs.Written.{written_then, stopped_more}
use Rattle.gdrun.proofs.write.write_both.Goals as goal

pub returns-in_err-write_piece : goal.returns-in_err-write_piece
returns-in_err-write_piece g c =
    let failed = err_from_is_err_and c.from_residual.result c.from_residual.ensures.1 in
    rw (failed.1, failed.2) (stopped_more _ _ (c.args.first.now ∷ []) (c.args.last.now ∷ []) c.in_err-write_piece.field-0.0 c.in_err-write_piece.ensures)

pub returns : goal.returns
returns g c = written_then _ _ _ (c.args.first.now ∷ []) (c.args.last.now ∷ []) c.args.status c.finish.result c.in_ok-write_piece.ensures c.finish.ensures
