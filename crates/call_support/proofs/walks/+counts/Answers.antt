use Rattle.std.proofs.Common.{◌∙◌}
use Rattle.variant_values.specs.declared.values.Key.{Key}
use Rattle.variant_values.specs.declared.values.Value.{Value}
use Rattle.variant_values.specs.ValueTexts.{items_in}
use Rattle.call_support.proofs.Counts.{counts_next, counts_stop}
use Rattle.call_support.proofs.Counts.{count_scalar, count_array-zero, count_dict-zero, count_array, count_dict}
use Rattle.call_support.proofs.walks.+counts.Goals as goal

pub room_after-returns-in_default : goal.room_after-returns-in_default
room_after-returns-in_default t c = count_scalar c.args.room c.args.levels c.args.heap.now.state.cells c.args.v.now c.in_default.not-Array c.in_default.not-Dict

pub room_after-returns-in-Array : goal.room_after-returns-in-Array
room_after-returns-in-Array t c = count_array-zero c.args.room c.args.levels c.args.heap.now.state.cells c.args.v.now _ c.in-Array.is c.if-levels-eq0.true

pub room_after-returns-in-Dict : goal.room_after-returns-in-Dict
room_after-returns-in-Dict t c = count_dict-zero c.args.room c.args.levels c.args.heap.now.state.cells c.args.v.now _ c.in-Dict.is c.if-levels-eq0-2.true

pub room_after-returns-in-Array-2 : goal.room_after-returns-in-Array-2
room_after-returns-in-Array-2 t c = count_array c.args.room c.args.levels c.args.heap.now.state.cells c.args.v.now _ _ _ c.in-Array-2.is c.if-levels-eq0.false c.items.ensures.value c.room_after_items.ensures

pub room_after-returns-in-Dict-2 : goal.room_after-returns-in-Dict-2
room_after-returns-in-Dict-2 t c = count_dict c.args.room c.args.levels c.args.heap.now.state.cells c.args.v.now _ _ _ c.in-Dict-2.is c.if-levels-eq0-2.false c.entries.ensures.value c.room_after_entries.ensures

pub room_after_entries-loop-i-preserved : goal.room_after_entries-loop-i-preserved
room_after_entries-loop-i-preserved t c =
    counts_next (λ (e : Key × Value). items_in c.args.levels c.args.heap.now.state.cells e.1) _ _ _ c.args.entries.now c.loop-i.i _ c.entry_at.ensures c.in_ok-left.ensures c.loop-i.invariant

pub room_after_entries-returns-in_err-left : goal.room_after_entries-returns-in_err-left
room_after_entries-returns-in_err-left t c =
    c.from_residual.ensures ∙ counts_stop (λ (e : Key × Value). items_in c.args.levels c.args.heap.now.state.cells e.1) _ _ c.args.entries.now c.loop-i.i _ c.entry_at.ensures c.in_err-left.ensures c.loop-i.invariant
