use Rattle.gd_syntax.proofs.Steps.{exit, answers_by}
use Rattle.gd_syntax.specs.Reading.Then.{goes, halts}
use Rattle.gdrun.proofs.taken.head.Goals as goal

pub returns-in_err-name-clause-reads : goal.returns-in_err-name-clause-reads
returns-in_err-name-clause-reads c = exit _ _ _ _ _ c.from_residual.ensures.1 (λ f h. halts h) c.in_err-name.ensures.reads

pub returns-in_err-open-clause-reads : goal.returns-in_err-open-clause-reads
returns-in_err-open-clause-reads c = exit _ _ _ _ _ c.from_residual-in_err-open.ensures.1 (λ f h. goes c.in_ok-name.ensures.reads (halts h)) c.in_err-open.ensures.reads

pub returns-in_err-close-clause-reads : goal.returns-in_err-close-clause-reads
returns-in_err-close-clause-reads c = exit _ _ _ _ _ c.from_residual-in_err-close.ensures.1 (λ f h. goes c.in_ok-name.ensures.reads (goes c.in_ok-open.ensures.reads (halts h))) c.in_err-close.ensures.reads

pub returns-in_err-colon-clause-reads : goal.returns-in_err-colon-clause-reads
returns-in_err-colon-clause-reads c = exit _ _ _ _ _ c.from_residual-in_err-colon.ensures.1 (λ f h. goes c.in_ok-name.ensures.reads (goes c.in_ok-open.ensures.reads (goes c.in_ok-close.ensures.reads (halts h)))) c.in_err-colon.ensures.reads

pub returns-clause-reads : goal.returns-clause-reads
returns-clause-reads c = answers_by _ _ _ _ c.due-4.result (λ x a. goes c.in_ok-name.ensures.reads (goes c.in_ok-open.ensures.reads (goes c.in_ok-close.ensures.reads (goes c.in_ok-colon.ensures.reads (a))))) (λ x a. goes c.in_ok-name.ensures.reads (goes c.in_ok-open.ensures.reads (goes c.in_ok-close.ensures.reads (goes c.in_ok-colon.ensures.reads (a))))) c.due-4.ensures.reads
