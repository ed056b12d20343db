use Rattle.std.proofs.Common.{rules, length, ◌≤◌, sym, subst}
use Rattle.turn_lock.specs.Rule.{PassSeat}
use Rattle.turn_lock.specs.Passes.{seen_by}
use Rattle.turn_lock.proofs.Steps.{joins, compared, short_long}
use Rattle.turn_lock.proofs.lock.TurnLock.join_pass.Goals as goal

pub join_seat-requires : goal.join_seat-requires
join_seat-requires g c =
    (c.requires.pass.table, c.requires.other.table, c.requires.other.no_slots, search rules, joins g.T.Told.project g.T.Told.log _ _ _ _ _ c.requires.pass.free c.requires.other.free)

pub load-requires : goal.load-requires
load-requires g c = (search rules, search rules, compared g.T.Told.project g.T.Told.log _ _ _ _ (subst (λ (m : PassSeat g.row.T.Denot g.row.T-Project.Denot g.row.T-Entry.Denot g.row.T-State.Denot). length m.0.shorter_seen ≤ length m.0.seen) (sym c.join_seat.ensures.2) (short_long (seen_by c.args.pass.now) (seen_by c.args.other))))
