use Rattle.gd_syntax.proofs.PatternSteps.{rest_none}
use Rattle.gd_syntax.proofs.Steps.{exit}
use Rattle.gd_syntax.specs.Reading.{Read}
use Rattle.gd_syntax.specs.Reading.Look.{looks}
use Rattle.gd_syntax.specs.Reading.Then.{goes, halts}
use Rattle.std.proofs.Common.{ap, refl}
use Rattle.gd_parser.proofs.patterns.rest.Goals as goal

pub returns-in_err-next-clause-reads : goal.returns-in_err-next-clause-reads
returns-in_err-next-clause-reads c = exit _ _ _ _ _ c.from_residual.ensures.1 (λ f h. looks (c.sees.ensures.yes c.if-sees.true) (goes (ap (λ n. Read tt n) c.skip.ensures.next) (halts h))) c.in_err-next.ensures.reads

pub returns-then-sees-clause-reads : goal.returns-then-sees-clause-reads
returns-then-sees-clause-reads c = looks (c.sees.ensures.yes c.if-sees.true) (goes (ap (λ n. Read tt n) c.skip.ensures.next) (goes c.in_ok-next.ensures.reads refl))

pub returns-then-sees-2-clause-reads : goal.returns-then-sees-2-clause-reads
returns-then-sees-2-clause-reads c = looks (c.sees-2.ensures.yes c.if-sees-2.true) (goes (ap (λ n. Read tt n) c.skip-then-sees-2.ensures.next) refl)

pub returns-clause-reads : goal.returns-clause-reads
returns-clause-reads c = rest_none c.args.tokens.now c.args.at (c.sees.ensures.no c.if-sees.false) (c.sees-2.ensures.no c.if-sees-2.false)
