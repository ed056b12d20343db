use Rattle.gd_syntax.specs.Reading.Look.{looks}
use Rattle.gd_syntax.specs.Reading.{Read}
use Rattle.gd_syntax.proofs.DeclarationSteps.{line_end_none}
use Rattle.std.proofs.Common.{ap, refl}
use Rattle.gd_parser.proofs.declarations.line_end.Goals as goal

pub returns-then-sees-clause-reads : goal.returns-then-sees-clause-reads
returns-then-sees-clause-reads c = looks (c.sees.ensures.yes c.if-sees.true) (ap (λ n. Read tt n) c.skip.ensures.next)

pub returns-else-sees-clause-reads : goal.returns-else-sees-clause-reads
returns-else-sees-clause-reads c = line_end_none c.args.tokens.now c.args.at _ (c.sees.ensures.no c.if-sees.false) refl
