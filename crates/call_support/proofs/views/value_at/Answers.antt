use Rattle.std.proofs.Common.{sym, ap, ◌∙◌, option_copied}
use Rattle.variant_values.specs.Keys.{same_key}
use Rattle.call_support.proofs.Finding.{found_known}
use Rattle.call_support.proofs.views.value_at.Goals as goal

pub returns-in-Some-clause-known : goal.returns-in-Some-clause-known
returns-in-Some-clause-known c = found_known c.args.heap.now.state.cells (same_key c.args.key.now) c.entries.result.now c.in-Some.v.now c.entries.ensures.known (sym c.get.ensures ∙ ap option_copied c.in-Some.is)
