use Rattle.gd_syntax.proofs.Steps.{exit}
use Rattle.gd_syntax.specs.Reading.{Read}
use Rattle.gd_syntax.specs.Reading.Then.{goes, halts}
use Rattle.std.proofs.Common.{ap, refl}
use Rattle.gd_parser.proofs.statements.assertion.Goals as goal

pub returns-in_err-start-clause-reads : goal.returns-in_err-start-clause-reads
returns-in_err-start-clause-reads c = exit _ _ _ _ _ c.from_residual.ensures.1 (λ f h. goes (ap (λ n. Read tt n) c.skip.ensures.next) (halts h)) c.in_err-start.ensures.reads

pub returns-in_err-condition-clause-reads : goal.returns-in_err-condition-clause-reads
returns-in_err-condition-clause-reads c = exit _ _ _ _ _ c.from_residual-in_err-condition.ensures.1 (λ f h. goes (ap (λ n. Read tt n) c.skip.ensures.next) (goes c.in_ok-start.ensures.reads (halts h))) c.in_err-condition.ensures.reads

pub returns-in_err-text-clause-reads : goal.returns-in_err-text-clause-reads
returns-in_err-text-clause-reads c = exit _ _ _ _ _ c.from_residual-in_err-text.ensures.1 (λ f h. goes (ap (λ n. Read tt n) c.skip.ensures.next) (goes c.in_ok-start.ensures.reads (goes c.in_ok-condition.ensures.reads (halts h)))) c.in_err-text.ensures.reads

pub returns-in_err-next-clause-reads : goal.returns-in_err-next-clause-reads
returns-in_err-next-clause-reads c = exit _ _ _ _ _ c.from_residual-in_err-next.ensures.1 (λ f h. goes (ap (λ n. Read tt n) c.skip.ensures.next) (goes c.in_ok-start.ensures.reads (goes c.in_ok-condition.ensures.reads (goes c.in_ok-text.ensures.reads (halts h))))) c.in_err-next.ensures.reads

pub returns-clause-reads : goal.returns-clause-reads
returns-clause-reads c = goes (ap (λ n. Read tt n) c.skip.ensures.next) (goes c.in_ok-start.ensures.reads (goes c.in_ok-condition.ensures.reads (goes c.in_ok-text.ensures.reads (goes c.in_ok-next.ensures.reads refl))))
