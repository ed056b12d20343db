use Rattle.gd_syntax.proofs.Steps.{answers_by}
use Rattle.gd_syntax.specs.Reading.Look.{looks}
use Rattle.std.proofs.Common.{ap, sym, ◌∙◌}
use Rattle.gd_syntax.specs.Operators.{prefix_of}
use Rattle.gd_exprs.proofs.rules.Rules.prefix.Goals as goal

pub returns-in-None-clause-reads : goal.returns-in-None-clause-reads
returns-in-None-clause-reads g c = let is = sym (ap prefix_of c.mark_at.ensures) ∙ sym c.prefix_of.ensures ∙ c.in-None.is in answers_by _ _ _ _ c.type_test.result (λ x a. looks is a) (λ x a. looks is a) c.type_test.ensures.reads
