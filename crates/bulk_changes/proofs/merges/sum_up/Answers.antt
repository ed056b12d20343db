use Rattle.std.proofs.Common.{arith, ap, Option}
use Rattle.std.specs.Map.{lookup}
use Rattle.variant_values.specs.declared.values.Key.{Key}
use Rattle.variant_values.specs.declared.values.Value.{Value}
use Rattle.variant_values.specs.Keys.{same_key}
use Rattle.variant_values.proofs.Sums.{sum_by_next}
use Rattle.bulk_changes.specs.Merges.{key_more, weight_less, weight_more}
use Rattle.bulk_changes.proofs.merges.sum_up.Goals as goal

pub loop-i-preserved : goal.loop-i-preserved
loop-i-preserved c =
    let f : Key × Value = (c.entry_at.result.0.now, c.entry_at.result.1.now) in
    let es = c.args.entries.now in
    let overwrite = c.args.overwrite in
    let inv = c.loop-i.invariant in
    let added = c.add_entry-tally.ensures in
    record {
      keys = omega (arith, added.keys, inv.keys, ap key_more c.get.ensures, sum_by_next (λ (g : Key × Value). key_more (lookup (same_key g.0) es)) c.args.put.now c.loop-i.i f c.entry_at.ensures);
      more = omega (arith, added.more, inv.more, ap (λ (o : Option Value). weight_more overwrite o f) c.get.ensures, sum_by_next (λ (g : Key × Value). weight_more overwrite (lookup (same_key g.0) es) g) c.args.put.now c.loop-i.i f c.entry_at.ensures);
      less = omega (arith, added.less, inv.less, ap (weight_less overwrite) c.get.ensures, sum_by_next (λ (g : Key × Value). weight_less overwrite (lookup (same_key g.0) es)) c.args.put.now c.loop-i.i f c.entry_at.ensures);
      few = omega (arith, added.few, inv.few);
      more_fits = omega (arith, added.more_fits, inv.more_fits);
      less_fits = omega (arith, added.less_fits, inv.less_fits);
    }
