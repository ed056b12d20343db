use Rattle.std.proofs.Common.{◌∙◌, ap, Bool}
use Rattle.variant_values.specs.DictMethods.{entries_in}
use Rattle.bulk_changes.specs.Merges.{weights_less}
use Rattle.bulk_changes.proofs.Entries.{none_less}
use Rattle.bulk_changes.proofs.merges.put_all.Goals as goal

pub enter_all-requires-clause-light : goal.enter_all-requires-clause-light
enter_all-requires-clause-light c =
    let es = entries_in c.args.heap.now.state c.args.of.0 in
    let fs = entries_in c.args.heap.now.state c.args.other.0 in
    ap (λ (b : Bool). weights_less b es fs) c.if-overwrite.false ∙ none_less es fs
