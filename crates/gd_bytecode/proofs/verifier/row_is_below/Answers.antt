use Rattle.gd_bytecode.proofs.Places.{row_test}
use Rattle.gd_bytecode.proofs.verifier.row_is_below.Goals as goal

pub returns-else-count-eq0 : goal.returns-else-count-eq0
returns-else-count-eq0 c = row_test c.args.limit c.args.first.0 c.args.count _ _ _ c.if-count-eq0.false c.from.ensures c.from-else-count-eq0.ensures c.from-else-count-eq0-2.ensures
