use Rattle.std.proofs.Common.{ap, sym, refl, ◌∙◌}
use Rattle.gd_syntax.proofs.Steps.{exit}
use Rattle.gd_syntax.specs.Reading.Look.{looks}
use Rattle.gd_syntax.specs.Reading.Then.{goes, halts}
use Rattle.gd_syntax.specs.Reading.{Read}
use Rattle.gdrun.proofs.TakenSteps.{operator_read, operator_refused}
use Rattle.gdrun.proofs.taken.operator.Goals as goal

pub returns-then-not-sees_operator-clause-reads : goal.returns-then-not-sees_operator-clause-reads
returns-then-not-sees_operator-clause-reads c = looks (sym c.sees_operator.ensures.is ∙ c.if-not-sees_operator.true) refl

pub returns-in_err-next-clause-reads : goal.returns-in_err-next-clause-reads
returns-in_err-next-clause-reads c = exit _ _ _ _ _ c.from_residual.ensures.1 (λ f h. operator_read c.args.tokens.now c.args.count c.args.at _ (sym c.sees_operator.ensures.is ∙ c.if-not-sees_operator.false) c.if-count-lt-MAX_OPERATORS.true (goes (ap (λ n. Read tt n) c.skip.ensures.next) (halts h))) c.in_err-next.ensures.reads

pub returns-in_ok-next-clause-reads : goal.returns-in_ok-next-clause-reads
returns-in_ok-next-clause-reads c = operator_read c.args.tokens.now c.args.count c.args.at _ (sym c.sees_operator.ensures.is ∙ c.if-not-sees_operator.false) c.if-count-lt-MAX_OPERATORS.true (goes (ap (λ n. Read tt n) c.skip.ensures.next) (goes c.in_ok-next.ensures.reads refl))

pub returns-else-count-lt-MAX_OPERATORS-clause-reads : goal.returns-else-count-lt-MAX_OPERATORS-clause-reads
returns-else-count-lt-MAX_OPERATORS-clause-reads c = rw (c.unbuilt.ensures) (operator_refused c.args.tokens.now c.args.count c.args.at (sym c.sees_operator.ensures.is ∙ c.if-not-sees_operator.false) c.if-count-lt-MAX_OPERATORS.false)
