use Rattle.bulk_changes.proofs.Merging.{fitting_own}
use Rattle.bulk_changes.proofs.merges.merge.Goals as goal

pub returns-then-other-of-clause-given : goal.returns-then-other-of-clause-given
returns-then-other-of-clause-given c = fitting_own c.args.heap.now.state c.args.of.0 c.args.other.0 c.requires.dict c.args.overwrite c.fits.ensures.once c.if-other-of.true c.in_ok-fits.ensures.count c.in_ok-fits.ensures.light
