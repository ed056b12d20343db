use Rattle.host_io.proofs.Once.{once, form}
use Rattle.host_io.proofs.host.each_once.Goals as goal

pub returns-clause-form : goal.returns-clause-form
returns-clause-form c = form _ _ _ c.sort_unstable.ensures.permutation c.dedup.ensures.filtered c.requires

pub returns-clause-once : goal.returns-clause-once
returns-clause-once c = once _ _ c.sort_unstable.ensures.sorted c.dedup.ensures.filtered
