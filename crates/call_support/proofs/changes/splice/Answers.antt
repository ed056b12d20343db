use Rattle.std.proofs.Common.{ap}
use Rattle.variant_values.specs.Heaps.{Heap, cell_at, items_of, spliced}
use Rattle.call_support.proofs.Keeping.{items_keep}
use Rattle.call_support.proofs.changes.splice.Goals as goal

pub returns-in-Ok-clause-keeps : goal.returns-in-Ok-clause-keeps
returns-in-Ok-clause-keeps c =
    items_keep c.args.heap.now.state.cells c.splice.new.self.state.cells c.args.of.0 (spliced (items_of (cell_at c.args.heap.now.state.cells c.args.of.0)) c.args.at c.args.out c.args.put.items) c.requires.array (ap (λ (h : Heap). h.cells) c.in-Ok.ensures.ok)
