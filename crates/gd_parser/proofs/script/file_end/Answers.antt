use Rattle.gd_syntax.specs.TokenReading.{Due}
use Rattle.gd_parser.proofs.script.file_end.Goals as goal

pub returns-then-sees : goal.returns-then-sees
returns-then-sees c = record { reads = Due.found (c.sees.ensures.yes c.if-sees.true) }

pub returns-else-sees : goal.returns-else-sees
returns-else-sees c = record { reads = rw (c.refuse.ensures) (Due.missing (c.sees.ensures.no c.if-sees.false)) }
