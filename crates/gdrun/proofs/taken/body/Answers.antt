use Rattle.std.proofs.Common.{ap}
use Rattle.gd_syntax.proofs.Steps.{exit, answers_by}
use Rattle.gd_syntax.specs.Reading.Look.{looks}
use Rattle.gd_syntax.specs.Reading.Then.{goes, halts}
use Rattle.gd_syntax.specs.Reading.{Read}
use Rattle.gdrun.proofs.TakenSteps.{body_line}
use Rattle.gdrun.proofs.taken.body.Goals as goal

pub returns-then-not-sees-clause-reads : goal.returns-then-not-sees-clause-reads
returns-then-not-sees-clause-reads c = answers_by _ _ _ _ c.line.result (λ x a. body_line c.args.tokens.now c.args.at _ (c.sees.ensures.no c.if-not-sees.true) a) (λ x a. body_line c.args.tokens.now c.args.at _ (c.sees.ensures.no c.if-not-sees.true) a) c.line.ensures.reads

pub returns-in_err-first-clause-reads : goal.returns-in_err-first-clause-reads
returns-in_err-first-clause-reads c = exit _ _ _ _ _ c.from_residual.ensures.1 (λ f h. looks (c.sees.ensures.yes c.if-not-sees.false) (goes (ap (λ n. Read tt n) c.skip.ensures.next) (halts h))) c.in_err-first.ensures.reads

pub returns-in_err-end-clause-reads : goal.returns-in_err-end-clause-reads
returns-in_err-end-clause-reads c = exit _ _ _ _ _ c.from_residual-in_err-end.ensures.1 (λ f h. looks (c.sees.ensures.yes c.if-not-sees.false) (goes (ap (λ n. Read tt n) c.skip.ensures.next) (goes c.in_ok-first.ensures.reads (halts h)))) c.in_err-end.ensures.reads

pub returns-clause-reads : goal.returns-clause-reads
returns-clause-reads c = answers_by _ _ _ _ c.due-2.result (λ x a. looks (c.sees.ensures.yes c.if-not-sees.false) (goes (ap (λ n. Read tt n) c.skip.ensures.next) (goes c.in_ok-first.ensures.reads (goes c.in_ok-end.ensures.reads a)))) (λ x a. looks (c.sees.ensures.yes c.if-not-sees.false) (goes (ap (λ n. Read tt n) c.skip.ensures.next) (goes c.in_ok-first.ensures.reads (goes c.in_ok-end.ensures.reads a)))) c.due-2.ensures.reads
