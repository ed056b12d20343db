use Rattle.gd_syntax.proofs.Levels.{levels-This}
use Rattle.gd_syntax.proofs.Steps.{answers_by}
use Rattle.gd_syntax.specs.Reading.Look.{looks}
use Rattle.gd_exprs.proofs.rules.Rules.this.Goals as goal

pub returns-clause-reads : goal.returns-clause-reads
returns-clause-reads g c = let h = rw (c.place_at-place.ensures) at c.leaf.ensures.reads in answers_by _ _ _ _ c.leaf.result (λ x a. looks c.requires.begins a) (λ x a. looks c.requires.begins a) h

pub leaf-requires-clause-leaf : goal.leaf-requires-clause-leaf
leaf-requires-clause-leaf g c = levels-This c.place_at-place.result
