use Rattle.std.proofs.Common.{arith}
use Rattle.std.specs.List.{sum_by}
use Rattle.variant_values.specs.Places.{entry_weight}
use Rattle.variant_values.proofs.Sums.{sum_by_next, sum_by_next_le}
use Rattle.variant_values.proofs.Rooms.{no_room}
use Rattle.variant_values.proofs.entries.Entries.room_left.Goals as goal

pub returns-then-weight-left : goal.returns-then-weight-left
returns-then-weight-left c = no_room c.args.room (sum_by entry_weight c.args.self.now) (omega (arith, sum_by_next_le entry_weight c.args.self.now c.loop-i.i (c.entry_at.result.0.now, c.entry_at.result.1.now) c.entry_at.ensures, c.entry_weight-weight.ensures.weight))

pub loop-i-preserved : goal.loop-i-preserved
loop-i-preserved c = omega (arith, sum_by_next entry_weight c.args.self.now c.loop-i.i (c.entry_at.result.0.now, c.entry_at.result.1.now) c.entry_at.ensures, c.entry_weight-weight.ensures.weight)
