use Rattle.variant_values.proofs.Freed.{freed_is, freed_once, freed_only}
use Rattle.variant_values.proofs.laws.frees_are_determined.Goals as goal

pub returns-clause-one : goal.returns-clause-one
returns-clause-one c = freed_once

pub returns-clause-freed : goal.returns-clause-freed
returns-clause-freed c = freed_only

pub returns-clause-some : goal.returns-clause-some
returns-clause-some c = freed_is
