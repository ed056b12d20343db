use Rattle.gd_syntax.proofs.Steps.{answers_by}
use Rattle.gd_syntax.specs.Reading.Look.{looks}
use Rattle.gd_parser.proofs.script.one_head.Goals as goal

pub returns-then-sees-clause-reads : goal.returns-then-sees-clause-reads
returns-then-sees-clause-reads c = answers_by _ _ _ _ c.annotation_head.result (λ x a. looks (c.sees.ensures.yes c.if-sees.true) a) (λ x a. looks (c.sees.ensures.yes c.if-sees.true) a) c.annotation_head.ensures.reads

pub returns-clause-reads : goal.returns-clause-reads
returns-clause-reads c = let is = c.requires.begins (c.sees.ensures.no c.if-sees.false) (c.sees-2.ensures.no c.if-sees-2.false) in answers_by _ _ _ _ c.base_head.result (λ x a. looks is a) (λ x a. looks is a) c.base_head.ensures.reads
