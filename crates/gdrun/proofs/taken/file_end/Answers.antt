use Rattle.gdrun.specs.Taken.{Due}
use Rattle.gdrun.proofs.taken.file_end.Goals as goal

pub returns-then-sees : goal.returns-then-sees
returns-then-sees c = Due.found (c.sees.ensures.yes c.if-sees.true)

pub returns-else-sees : goal.returns-else-sees
returns-else-sees c = rw (c.unbuilt.ensures) (Due.missing (c.sees.ensures.no c.if-sees.false))
