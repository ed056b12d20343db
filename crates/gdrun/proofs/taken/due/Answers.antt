use Rattle.gdrun.specs.Taken.{Due}
use Rattle.gdrun.proofs.taken.due.Goals as goal

pub returns-then-sees-clause-reads : goal.returns-then-sees-clause-reads
returns-then-sees-clause-reads c = rw (c.skip.ensures.next) (Due.found (c.sees.ensures.yes c.if-sees.true))

pub returns-else-sees-clause-reads : goal.returns-else-sees-clause-reads
returns-else-sees-clause-reads c = rw (c.unbuilt.ensures) (Due.missing (c.sees.ensures.no c.if-sees.false))
