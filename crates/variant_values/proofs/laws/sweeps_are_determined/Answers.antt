use Rattle.variant_values.proofs.Once.{swept_once}
use Rattle.variant_values.proofs.Rounds.{swept_is, swept_only}
use Rattle.variant_values.proofs.laws.sweeps_are_determined.Goals as goal

pub returns-clause-one : goal.returns-clause-one
returns-clause-one c = swept_once

pub returns-clause-swept : goal.returns-clause-swept
returns-clause-swept c = swept_only

pub returns-clause-some : goal.returns-clause-some
returns-clause-some c = swept_is
