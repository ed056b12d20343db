use Rattle.gd_syntax.proofs.Steps.{answers_by, exit}
use Rattle.gd_syntax.specs.Reading.Look.{looks}
use Rattle.gd_syntax.specs.Reading.Then.{goes, halts}
use Rattle.std.proofs.Common.{refl, sym, ◌∙◌}
use Rattle.gd_parser.proofs.statements.assignment.Goals as goal

pub returns-in_err-target-clause-reads : goal.returns-in_err-target-clause-reads
returns-in_err-target-clause-reads c = exit _ _ _ _ _ c.from_residual.ensures.1 (λ f h. halts h) c.in_err-target.ensures.reads

pub returns-in-Some-clause-reads : goal.returns-in-Some-clause-reads
returns-in-Some-clause-reads c = let is = (rw (c.mark_at.ensures) at (sym c.assign_op_after.ensures ∙ c.in-Some.is)) in answers_by _ _ _ _ c.assigned.result (λ x a. goes c.in_ok-target.ensures.reads (looks is a)) (λ x a. goes c.in_ok-target.ensures.reads (looks is a)) c.assigned.ensures.reads

pub returns-in-None-clause-reads : goal.returns-in-None-clause-reads
returns-in-None-clause-reads c = let is = (rw (c.mark_at.ensures) at (sym c.assign_op_after.ensures ∙ c.in-None.is)) in goes c.in_ok-target.ensures.reads (looks is refl)
