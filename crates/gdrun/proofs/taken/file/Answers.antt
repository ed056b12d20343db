use Rattle.gd_syntax.proofs.Steps.{exit, answers_by}
use Rattle.gd_syntax.specs.Reading.Then.{goes, halts}
use Rattle.gdrun.proofs.taken.file.Goals as goal

pub returns-in_err-first : goal.returns-in_err-first
returns-in_err-first c = exit _ _ _ _ _ c.from_residual.ensures.1 (λ f h. halts h) c.in_err-first.ensures.reads

pub returns-in_err-end : goal.returns-in_err-end
returns-in_err-end c = exit _ _ _ _ _ c.from_residual-in_err-end.ensures.1 (λ f h. goes c.in_ok-first.ensures.reads (halts h)) c.in_err-end.ensures.reads

pub returns : goal.returns
returns c = answers_by _ _ _ _ c.file_end.result (λ x a. goes c.in_ok-first.ensures.reads (goes c.in_ok-end.ensures.reads a)) (λ x a. goes c.in_ok-first.ensures.reads (goes c.in_ok-end.ensures.reads a)) c.file_end.ensures
