use Rattle.gd_syntax.proofs.StatementSteps.{return_value}
use Rattle.gd_syntax.proofs.Steps.{exit}
use Rattle.gd_syntax.specs.Reading.Look.{looks}
use Rattle.gd_syntax.specs.Reading.Then.{goes, halts}
use Rattle.std.proofs.Common.{refl}
use Rattle.gd_parser.proofs.statements.returned.Goals as goal

pub returns-then-sees-clause-reads : goal.returns-then-sees-clause-reads
returns-then-sees-clause-reads c = looks (c.sees.ensures.yes c.if-sees.true) refl

pub returns-then-sees-2-clause-reads : goal.returns-then-sees-2-clause-reads
returns-then-sees-2-clause-reads c = looks (c.sees-2.ensures.yes c.if-sees-2.true) refl

pub returns-in_err-value-clause-reads : goal.returns-in_err-value-clause-reads
returns-in_err-value-clause-reads c = exit _ _ _ _ _ c.from_residual.ensures.1 (λ f h. return_value c.args.tokens.now c.args.place _ _ (c.sees.ensures.no c.if-sees.false) (c.sees-2.ensures.no c.if-sees-2.false) (halts h)) c.in_err-value.ensures.reads

pub returns-clause-reads : goal.returns-clause-reads
returns-clause-reads c = return_value c.args.tokens.now c.args.place _ _ (c.sees.ensures.no c.if-sees.false) (c.sees-2.ensures.no c.if-sees-2.false) (goes c.in_ok-value.ensures.reads refl)
