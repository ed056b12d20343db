use Rattle.std.proofs.Common.{◌<◌, ap, arith, []}
use Rattle.variant_values.specs.Heaps.{Heap, cell_at, items_of, spliced, with_splice}
use Rattle.variant_values.specs.Places.{weight}
use Rattle.variant_values.proofs.Removing.{removal_lighter}
use Rattle.call_support.proofs.Keeping.{items_keep}
use Rattle.call_support.proofs.Removals.{never_full}
use Rattle.call_support.proofs.changes.remove_items.Goals as goal

pub returns-in-Ok-clause-keeps : goal.returns-in-Ok-clause-keeps
returns-in-Ok-clause-keeps c =
    items_keep c.args.heap.now.state.cells c.splice.new.self.state.cells c.args.of.0 (spliced (items_of (cell_at c.args.heap.now.state.cells c.args.of.0)) c.args.at c.args.out []) c.requires.array (ap (λ (h : Heap). h.cells) (rw c.new.ensures.items at c.in-Ok.ensures.ok))

pub returns-in-Err-clause-given : goal.returns-in-Err-clause-given
returns-in-Err-clause-given c =
    never_full c.splice.result c.in-Err.trouble c.args.heap.now.state c.splice.new.self.state (with_splice c.args.heap.now.state c.args.of.0 c.args.at c.args.out []) (67108864 < weight (with_splice c.args.heap.now.state c.args.of.0 c.args.at c.args.out []).cells) c.in-Err.is (rw c.new.ensures.items at c.splice.ensures.full) (λ heavy. omega (arith, heavy, c.is_sound.ensures.light, removal_lighter c.args.heap.now.state.cells c.args.of.0 c.args.at c.args.out c.requires.array)) c.in-Err.ensures.only
