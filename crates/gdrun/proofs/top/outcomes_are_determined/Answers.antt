use Rattle.gdrun.proofs.Texts.{some_outcome, same_outcome}
use Rattle.gdrun.proofs.top.outcomes_are_determined.Goals as goal

pub returns-clause-some : goal.returns-clause-some
returns-clause-some c = some_outcome

pub returns-clause-one : goal.returns-clause-one
returns-clause-one c = same_outcome
