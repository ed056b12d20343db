use Rattle.gd_syntax.proofs.Steps.{kind_at_is}
use Rattle.gd_exprs.proofs.reader.kind_at.Goals as goal

pub returns : goal.returns
returns c = kind_at_is c.args.tokens.now c.args.at _ c.requires
