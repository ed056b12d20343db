use Rattle.gd_syntax.proofs.Levels.{levels-NodeText}
use Rattle.gd_syntax.proofs.Steps.{answers_by}
use Rattle.gd_syntax.specs.Reading.Look.{looks}
use Rattle.std.proofs.Common.{sym, ◌∙◌}
use Rattle.gd_exprs.proofs.rules.Rules.after_dollar.Goals as goal

pub leaf-requires-clause-leaf : goal.leaf-requires-clause-leaf
leaf-requires-clause-leaf g c = levels-NodeText c.args.place c.in_ok-text-in-Text.text

pub returns-in_ok-text-in-Text-clause-reads : goal.returns-in_ok-text-in-Text-clause-reads
returns-in_ok-text-in-Text-clause-reads g c = let h = rw (c.in_ok-text-in-Text.ensures.cases) at c.leaf.ensures.reads in let is = sym c.kind_at.ensures ∙ c.in-Text.is in answers_by _ _ _ _ c.leaf.result (λ x a. looks is a) (λ x a. looks is a) h
