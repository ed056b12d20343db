use Rattle.gd_syntax.proofs.Steps.{exit, answers_by}
use Rattle.gd_syntax.specs.Reading.Then.{goes, halts}
use Rattle.gdrun.proofs.taken.line.Goals as goal

pub returns-in_err-next-clause-reads : goal.returns-in_err-next-clause-reads
returns-in_err-next-clause-reads c = exit _ _ _ _ _ c.from_residual.ensures.1 (λ f h. halts h) c.in_err-next.ensures.reads

pub returns-in_err-end-clause-reads : goal.returns-in_err-end-clause-reads
returns-in_err-end-clause-reads c = exit _ _ _ _ _ c.from_residual-in_err-end.ensures.1 (λ f h. goes c.in_ok-next.ensures.reads (halts h)) c.in_err-end.ensures.reads

pub returns-clause-reads : goal.returns-clause-reads
returns-clause-reads c = answers_by _ _ _ _ c.due.result (λ x a. goes c.in_ok-next.ensures.reads (goes c.in_ok-end.ensures.reads (a))) (λ x a. goes c.in_ok-next.ensures.reads (goes c.in_ok-end.ensures.reads (a))) c.due.ensures.reads
