use Rattle.gd_syntax.proofs.Steps.{answers_by}
use Rattle.gd_syntax.specs.Reading.{Read}
use Rattle.gd_syntax.specs.Reading.Look.{looks}
use Rattle.gd_syntax.specs.Reading.Then.{goes}
use Rattle.std.proofs.Common.{ap}
use Rattle.gd_exprs.proofs.rules.Rules.dict.Goals as goal

pub returns-clause-reads : goal.returns-clause-reads
returns-clause-reads g c = let h = rw (c.place_at-place.ensures) at c.after_brace.ensures.reads in answers_by _ _ _ _ c.after_brace.result (λ x a. looks c.requires.begins (goes (ap (λ n. Read tt n) c.skip.ensures.next) a)) (λ x a. looks c.requires.begins (goes (ap (λ n. Read tt n) c.skip.ensures.next) a)) h
