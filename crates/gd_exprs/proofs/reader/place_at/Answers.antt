use Rattle.gd_syntax.proofs.Steps.{place_at_is}
use Rattle.gd_exprs.proofs.reader.place_at.Goals as goal

pub returns : goal.returns
returns c = place_at_is c.args.tokens.now c.args.at _ c.requires
