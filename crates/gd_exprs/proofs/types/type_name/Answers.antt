use Rattle.gd_syntax.proofs.OnlyTypes.{only_type_name}
use Rattle.gd_exprs.proofs.Parts.{gives_only}
use Rattle.gd_exprs.proofs.types.type_name.Goals as goal

pub returns-clause-only : goal.returns-clause-only
returns-clause-only c = gives_only _ _ _ (only_type_name c.args.tokens.now c.args.sought c.args.at) c.read_type.ensures.reads
