use Rattle.gd_syntax.proofs.Steps.{exit, answers_by}
use Rattle.gd_syntax.specs.Reading.Then.{goes, halts}
use Rattle.gdrun.proofs.taken.call.Goals as goal

pub returns-in_err-open-clause-reads : goal.returns-in_err-open-clause-reads
returns-in_err-open-clause-reads c = exit _ _ _ _ _ c.from_residual.ensures.1 (λ f h. halts h) c.in_err-open.ensures.reads

pub returns-in_err-first-clause-reads : goal.returns-in_err-first-clause-reads
returns-in_err-first-clause-reads c = exit _ _ _ _ _ c.from_residual-in_err-first.ensures.1 (λ f h. goes c.in_ok-open.ensures.reads (halts h)) c.in_err-first.ensures.reads

pub returns-in_err-more-clause-reads : goal.returns-in_err-more-clause-reads
returns-in_err-more-clause-reads c = exit _ _ _ _ _ c.from_residual-in_err-more.ensures.1 (λ f h. goes c.in_ok-open.ensures.reads (goes c.in_ok-first.ensures.reads (halts h))) c.in_err-more.ensures.reads

pub returns-in_err-close-clause-reads : goal.returns-in_err-close-clause-reads
returns-in_err-close-clause-reads c = exit _ _ _ _ _ c.from_residual-in_err-close.ensures.1 (λ f h. goes c.in_ok-open.ensures.reads (goes c.in_ok-first.ensures.reads (goes c.in_ok-more.ensures.reads (halts h)))) c.in_err-close.ensures.reads

pub returns-clause-reads : goal.returns-clause-reads
returns-clause-reads c = answers_by _ _ _ _ c.due-2.result (λ x a. goes c.in_ok-open.ensures.reads (goes c.in_ok-first.ensures.reads (goes c.in_ok-more.ensures.reads (goes c.in_ok-close.ensures.reads (a))))) (λ x a. goes c.in_ok-open.ensures.reads (goes c.in_ok-first.ensures.reads (goes c.in_ok-more.ensures.reads (goes c.in_ok-close.ensures.reads (a))))) c.due-2.ensures.reads
