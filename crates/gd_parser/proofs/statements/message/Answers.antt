use Rattle.gd_syntax.proofs.StatementSteps.{message_none}
use Rattle.gd_syntax.proofs.Steps.{exit}
use Rattle.gd_syntax.specs.Reading.{Read}
use Rattle.gd_syntax.specs.Reading.Look.{looks}
use Rattle.gd_syntax.specs.Reading.Then.{goes, halts}
use Rattle.std.proofs.Common.{ap, refl}
use Rattle.gd_parser.proofs.statements.message.Goals as goal

pub returns-then-not-sees-clause-reads : goal.returns-then-not-sees-clause-reads
returns-then-not-sees-clause-reads c = message_none c.args.tokens.now _ _ (c.sees.ensures.no c.if-not-sees.true) refl

pub returns-in_err-text-clause-reads : goal.returns-in_err-text-clause-reads
returns-in_err-text-clause-reads c = exit _ _ _ _ _ c.from_residual.ensures.1 (λ f h. looks (c.sees.ensures.yes c.if-not-sees.false) (goes (ap (λ n. Read tt n) c.skip.ensures.next) (halts h))) c.in_err-text.ensures.reads

pub returns-clause-reads : goal.returns-clause-reads
returns-clause-reads c = looks (c.sees.ensures.yes c.if-not-sees.false) (goes (ap (λ n. Read tt n) c.skip.ensures.next) (goes c.in_ok-text.ensures.reads refl))
