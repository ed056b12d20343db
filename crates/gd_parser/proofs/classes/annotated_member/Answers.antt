use Rattle.gd_syntax.proofs.Steps.{exit, answers_by}
use Rattle.gd_syntax.specs.Reading.Then.{goes, halts}
use Rattle.gd_parser.proofs.classes.annotated_member.Goals as goal

pub returns-in_err-before-clause-reads : goal.returns-in_err-before-clause-reads
returns-in_err-before-clause-reads c = exit _ _ _ _ _ c.from_residual.ensures.1 (λ f h. halts h) c.in_err-before.ensures.reads

pub returns-clause-reads : goal.returns-clause-reads
returns-clause-reads c = let h = rw (c.place_at-place.ensures) at c.annotated.ensures.reads in answers_by _ _ _ _ c.annotated.result (λ x a. goes c.in_ok-before.ensures.reads a) (λ x a. goes c.in_ok-before.ensures.reads a) h
