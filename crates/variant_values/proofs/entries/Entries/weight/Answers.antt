use Rattle.std.proofs.Common.{arith}
use Rattle.variant_values.specs.Places.{entry_weight}
use Rattle.variant_values.proofs.Sums.{sum_by_next, sum_by_next_le}
use Rattle.variant_values.proofs.entries.Entries.weight.Goals as goal

pub overflow_add-total : goal.overflow_add-total
overflow_add-total c = omega (arith, sum_by_next_le entry_weight c.args.self.now c.loop-i.i (c.entry_at.result.0.now, c.entry_at.result.1.now) c.entry_at.ensures, c.entry_weight.ensures.weight)

pub loop-i-preserved : goal.loop-i-preserved
loop-i-preserved c = omega (arith, sum_by_next entry_weight c.args.self.now c.loop-i.i (c.entry_at.result.0.now, c.entry_at.result.1.now) c.entry_at.ensures, c.entry_weight.ensures.weight)

pub overflow_cast-total : goal.overflow_cast-total
overflow_cast-total c = omega (arith, sum_by_next_le entry_weight c.args.self.now c.loop-i.i (c.entry_at.result.0.now, c.entry_at.result.1.now) c.entry_at.ensures, c.entry_weight.ensures.weight, c.requires)
