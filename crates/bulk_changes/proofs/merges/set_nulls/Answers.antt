use Rattle.std.proofs.Common.{◌<◌, ◌∙◌, length, rules}
use Rattle.variant_values.specs.declared.values.Value.TheVariants.{Dict}
use Rattle.variant_values.specs.DictMethods.{entries_in}
use Rattle.bulk_changes.proofs.Merging.{nulls_step}
use Rattle.bulk_changes.proofs.merges.set_nulls.Goals as goal

pub loop-i-preserved : goal.loop-i-preserved
loop-i-preserved c =
    let within : c.loop-i.i < length (entries_in c.args.heap.now.state c.args.other.0) = search rules in
    record {
      nulls = nulls_step c.args.heap.now.state c.loop-i.heap.state c.set_null_at.new.heap.state c.args.of.0 c.args.other.0 c.loop-i.i c.requires.apart c.requires.dict (c.loop-i.invariant.keeps (Dict c.args.of) c.requires.dict) within c.loop-i.invariant.nulls c.in_ok-set_null_at.ensures.ok;
      keeps = λ v k. c.set_null_at.ensures.keeps v (c.loop-i.invariant.keeps v k);
      kept = λ x. c.set_null_at.ensures.kept x ∙ c.loop-i.invariant.kept x;
    }
