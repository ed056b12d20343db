use Rattle.gd_syntax.proofs.Steps.{answers_by}
use Rattle.gd_syntax.proofs.TypeSteps.{result_none}
use Rattle.gd_syntax.specs.Reading.{Read}
use Rattle.gd_syntax.specs.Reading.Look.{looks}
use Rattle.gd_syntax.specs.Reading.Then.{goes}
use Rattle.std.proofs.Common.{ap}
use Rattle.gd_exprs.proofs.types.read_result.Goals as goal

pub returns-then-not-sees-clause-reads : goal.returns-then-not-sees-clause-reads
returns-then-not-sees-clause-reads c = answers_by _ _ _ _ c.read_type.result (λ x a. result_none c.args.tokens.now _ _ (c.sees.ensures.no c.if-not-sees.true) a) (λ x a. result_none c.args.tokens.now _ _ (c.sees.ensures.no c.if-not-sees.true) a) c.read_type.ensures.reads

pub returns-clause-reads : goal.returns-clause-reads
returns-clause-reads c = looks (c.sees.ensures.yes c.if-not-sees.false) (goes (ap (λ n. Read tt n) c.skip.ensures.next) (rw (c.place_at-place.ensures)))
