use Rattle.gd_syntax.proofs.Levels.{levels-Literal}
use Rattle.gd_syntax.proofs.Steps.{answers_by}
use Rattle.gd_syntax.specs.Reading.Look.{looks}
use Rattle.gd_syntax.specs.TokenReading.{literal_of}
use Rattle.std.proofs.Common.{ap, sym, ◌∙◌}
use Rattle.gd_exprs.proofs.rules.Rules.operand.Goals as goal

pub leaf-requires-clause-leaf : goal.leaf-requires-clause-leaf
leaf-requires-clause-leaf g c = levels-Literal c.place_at-place.result c.in-Some.value

pub returns-in-Some-clause-reads : goal.returns-in-Some-clause-reads
returns-in-Some-clause-reads g c = let h = rw (c.place_at-place.ensures) at c.leaf.ensures.reads in let is = ap literal_of (sym c.kind_at.ensures) ∙ sym c.in_ok-value.ensures ∙ c.in-Some.is in answers_by _ _ _ _ c.leaf.result (λ x a. looks is a) (λ x a. looks is a) h

pub returns-in-None-clause-reads : goal.returns-in-None-clause-reads
returns-in-None-clause-reads g c = let is = ap literal_of (sym c.kind_at.ensures) ∙ sym c.in_ok-value.ensures ∙ c.in-None.is in answers_by _ _ _ _ c.other.result (λ x a. looks is a) (λ x a. looks is a) c.other.ensures.reads
