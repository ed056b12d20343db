use Rattle.std.proofs.Common.{ap, arith}
use Rattle.variant_values.specs.Places.{in_entry, one_at}
use Rattle.variant_values.proofs.Sums.{sum_by_next}
use Rattle.ref_objects.proofs.checks.places_in_entries.Goals as goal

pub loop-i-preserved : goal.loop-i-preserved
loop-i-preserved c =
    let next = sum_by_next (in_entry c.args.x) c.args.entries.now c.loop-i.i (c.entry_at.result.0.now, c.entry_at.result.1.now) c.entry_at.ensures in
    (omega (arith, c.loop-i.invariant.0, next, c.one.ensures.value, c.one-in-loop-i.ensures.value, ap (one_at c.args.x) c.key_place.ensures, ap (one_at c.args.x) c.place_of.ensures), omega (arith, c.loop-i.invariant.1, c.one.ensures.small, c.one-in-loop-i.ensures.small))
