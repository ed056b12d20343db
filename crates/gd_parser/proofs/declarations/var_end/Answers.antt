use Rattle.gd_syntax.specs.Reading.Look.{looks}
use Rattle.gd_syntax.proofs.DeclarationSteps.{var_ended}
use Rattle.std.proofs.Common.{refl}
use Rattle.gd_parser.proofs.declarations.var_end.Goals as goal

pub returns-then-sees-clause-reads : goal.returns-then-sees-clause-reads
returns-then-sees-clause-reads c = rw (c.refuse.ensures) (looks (c.sees.ensures.yes c.if-sees.true) refl)

pub returns-clause-reads : goal.returns-clause-reads
returns-clause-reads c = var_ended c.args.tokens.now c.args.tree c.args.at _ (c.sees.ensures.no c.if-sees.false) refl
