use Rattle.gd_exprs.proofs.Parts.{fits_with}
use Rattle.gd_syntax.proofs.Steps.{answers_by, exit}
use Rattle.gd_syntax.specs.Reading.{Read}
use Rattle.gd_syntax.specs.Reading.Look.{looks}
use Rattle.gd_syntax.specs.Reading.Then.{goes, halts}
use Rattle.std.proofs.Common.{ap}
use Rattle.gd_exprs.proofs.rules.Rules.test.Goals as goal

pub returns-in_err-fits_over-clause-reads : goal.returns-in_err-fits_over-clause-reads
returns-in_err-fits_over-clause-reads g c = exit _ _ _ _ _ c.from_residual.ensures.1 (λ f h. looks c.requires.begins (halts (fits_with _ _ _ _ 1 _ c.requires.part.levels h))) c.in_err-fits_over.ensures.reads

pub returns-clause-reads : goal.returns-clause-reads
returns-clause-reads g c = answers_by _ _ _ _ c.kind_test.result (λ x a. looks c.requires.begins (goes (fits_with _ _ _ _ 1 _ c.requires.part.levels c.in_ok-fits_over.ensures.reads) (goes (ap (λ n. Read tt n) c.skip-next.ensures.next) a))) (λ x a. looks c.requires.begins (goes (fits_with _ _ _ _ 1 _ c.requires.part.levels c.in_ok-fits_over.ensures.reads) (goes (ap (λ n. Read tt n) c.skip-next.ensures.next) a))) c.kind_test.ensures.reads
