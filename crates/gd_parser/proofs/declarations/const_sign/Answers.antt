use Rattle.gd_syntax.specs.TokenReading.{OneOf}
use Rattle.gd_parser.proofs.Sorts.{assign_sign, typed_sign, no_sign}
use Rattle.gd_parser.proofs.declarations.const_sign.Goals as goal

pub returns-then-sees-clause-reads : goal.returns-then-sees-clause-reads
returns-then-sees-clause-reads c = rw (c.skip.ensures.next) (OneOf.found (assign_sign _ (c.sees.ensures.yes c.if-sees.true)))

pub returns-then-sees-2-clause-reads : goal.returns-then-sees-2-clause-reads
returns-then-sees-2-clause-reads c = rw (c.skip-then-sees-2.ensures.next) (OneOf.found (typed_sign _ (c.sees-2.ensures.yes c.if-sees-2.true)))

pub returns-clause-reads : goal.returns-clause-reads
returns-clause-reads c = rw (c.refuse.ensures) (OneOf.missing (no_sign _ (c.sees.ensures.no c.if-sees.false) (c.sees-2.ensures.no c.if-sees-2.false)))
