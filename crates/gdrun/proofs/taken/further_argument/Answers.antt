use Rattle.std.proofs.Common.{ap}
use Rattle.gd_syntax.proofs.Steps.{answers_by}
use Rattle.gd_syntax.specs.Reading.Look.{looks}
use Rattle.gd_syntax.specs.Reading.Then.{goes}
use Rattle.gd_syntax.specs.Reading.{Read}
use Rattle.gdrun.proofs.TakenSteps.{further_argument_none}
use Rattle.gdrun.proofs.taken.further_argument.Goals as goal

pub returns-then-sees-clause-reads : goal.returns-then-sees-clause-reads
returns-then-sees-clause-reads c = answers_by _ _ _ _ c.parted_argument.result (λ x a. looks (c.sees.ensures.yes c.if-sees.true) (goes (ap (λ n. Read tt n) c.skip.ensures.next) a)) (λ x a. looks (c.sees.ensures.yes c.if-sees.true) (goes (ap (λ n. Read tt n) c.skip.ensures.next) a)) c.parted_argument.ensures.reads

pub returns-else-sees-clause-reads : goal.returns-else-sees-clause-reads
returns-else-sees-clause-reads c = further_argument_none c.args.tokens.now c.args.count c.args.at (c.sees.ensures.no c.if-sees.false)
