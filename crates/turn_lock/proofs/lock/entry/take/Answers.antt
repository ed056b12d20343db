use Rattle.std.proofs.Common.{rules}
use Rattle.turn_lock.proofs.Steps.{took}
use Rattle.turn_lock.proofs.lock.entry.take.Goals as goal

pub compare_exchange-requires : goal.compare_exchange-requires
compare_exchange-requires g c = (c.requires.table.0, search rules, took g.T.Told.project g.T.Told.log _ g.T.Told.state _ _ _ c.requires.free)
