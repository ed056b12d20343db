use Rattle.std.proofs.Common.{◌<◌, ◌∙◌, length, rules}
use Rattle.variant_values.specs.declared.values.Value.TheVariants.{Dict}
use Rattle.variant_values.specs.DictMethods.{entries_in}
use Rattle.bulk_changes.proofs.Merging.{entering_step, room_step}
use Rattle.bulk_changes.proofs.merges.enter_all.Goals as goal

pub enter_at-requires-clause-room : goal.enter_at-requires-clause-room
enter_at-requires-clause-room c = room_step c.args.overwrite c.args.heap.now.state c.loop-i.heap.state c.args.of.0 c.args.other.0 c.loop-i.i c.requires.apart c.requires.dict (c.loop-i.invariant.keeps (Dict c.args.of) c.requires.dict) c.loop-i.invariant.entering c.requires.room

pub loop-i-preserved : goal.loop-i-preserved
loop-i-preserved c =
    let within : c.loop-i.i < length (entries_in c.args.heap.now.state c.args.other.0) = search rules in
    record {
      entering = entering_step c.args.overwrite c.args.heap.now.state c.loop-i.heap.state c.args.of.0 c.args.other.0 c.loop-i.i c.requires.apart c.requires.dict (c.loop-i.invariant.keeps (Dict c.args.of) c.requires.dict) c.loop-i.invariant.entering c.enter_at.new.heap.state within c.in_ok-enter_at.ensures.ok;
      keeps = λ v k. c.enter_at.ensures.keeps v (c.loop-i.invariant.keeps v k);
      kept = λ x. c.enter_at.ensures.kept x ∙ c.loop-i.invariant.kept x;
    }
