use Rattle.gd_syntax.proofs.Steps.{exit, answers_by}
use Rattle.gd_syntax.specs.Reading.Then.{goes, halts}
use Rattle.gd_parser.proofs.script.with_first_member.Goals as goal

pub returns-in_err-first : goal.returns-in_err-first
returns-in_err-first c = record { reads = exit _ _ _ _ _ c.from_residual.ensures.1 (λ f h. halts h) (rw (c.from_vec-before.ensures) at c.in_err-first.ensures.reads) }

pub returns : goal.returns
returns c = record { reads = answers_by _ _ _ _ c.rest.result (λ x a. goes (rw (c.from_vec-before.ensures) at c.in_ok-first.ensures.reads) a) (λ x a. goes (rw (c.from_vec-before.ensures) at c.in_ok-first.ensures.reads) a) c.rest.ensures.reads }
