use Rattle.std.proofs.Common.{◌∙◌}
use Rattle.string_calls.proofs.Parting.{knows_strings}
use Rattle.string_calls.proofs.calls.split.Goals as goal

pub new_array-requires : goal.new_array-requires
new_array-requires c = knows_strings c.args.heap.now.state.cells c.items.inside.items.items _ (c.items.view_is ∙ c.in_ok-items.ensures.0)
