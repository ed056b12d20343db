use Rattle.gd_syntax.proofs.OnlyTypes.{only_result_type}
use Rattle.gd_exprs.proofs.Parts.{gives_only}
use Rattle.gd_exprs.proofs.types.result_type.Goals as goal

pub returns-clause-only : goal.returns-clause-only
returns-clause-only c = gives_only _ _ _ (only_result_type c.args.tokens.now c.args.at) c.read_result.ensures.reads
