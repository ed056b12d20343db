use Rattle.gd_syntax.proofs.Steps.{exit, answers_by}
use Rattle.gd_syntax.specs.Reading.Then.{goes, halts}
use Rattle.gd_syntax.specs.Reading.Look.{looks}
use Rattle.std.proofs.Common.{sym, ◌∙◌}
use Rattle.gd_parser.proofs.script.file.Goals as goal

pub returns-in_err-sofar : goal.returns-in_err-sofar
returns-in_err-sofar c = record { reads = exit _ _ _ _ _ c.from_residual.ensures.1 (λ f h. halts h) c.in_err-sofar.ensures.reads }

pub returns-then-is_annotated : goal.returns-then-is_annotated
returns-then-is_annotated c = record { reads = let is = sym c.is_annotated.ensures ∙ c.if-is_annotated.true in answers_by _ _ _ _ c.with_first_member.result (λ x a. goes c.in_ok-sofar.ensures.reads (looks is a)) (λ x a. goes c.in_ok-sofar.ensures.reads (looks is a)) c.with_first_member.ensures.reads }

pub returns-else-is_annotated : goal.returns-else-is_annotated
returns-else-is_annotated c = record { reads = let is = sym c.is_annotated.ensures ∙ c.if-is_annotated.false in answers_by _ _ _ _ c.without_first_member.result (λ x a. goes c.in_ok-sofar.ensures.reads (looks is a)) (λ x a. goes c.in_ok-sofar.ensures.reads (looks is a)) c.without_first_member.ensures.reads }
