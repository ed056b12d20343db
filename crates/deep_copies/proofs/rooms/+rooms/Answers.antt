use Rattle.std.proofs.Common.{◌+◌, ◌-◌, ◌∙◌, ap, sym, List}
use Rattle.variant_values.specs.declared.values.Key.{Key}
use Rattle.variant_values.specs.declared.values.Value.{Value}
use Rattle.variant_values.specs.Places.{room_left}
use Rattle.deep_copies.specs.CopyWeights.{cell_cost, copy_cost, entry_cost, item_cost, total}
use Rattle.deep_copies.proofs.Levels.{cost_last, cost_scalar, cost_array, cost_dict}
use Rattle.deep_copies.proofs.Weights.{room_all, room_stop, room_then, weighs_next, weighs_stop}
use Rattle.deep_copies.proofs.rooms.+rooms.Goals as goal

pub room_after-returns-then-levels-eq0 : goal.room_after-returns-then-levels-eq0
room_after-returns-then-levels-eq0 t c = room_all c.args.room _ (cost_last c.args.measure c.args.levels c.args.heap.now.state.cells c.args.v.now c.if-levels-eq0.true)

pub room_after-returns-in_default : goal.room_after-returns-in_default
room_after-returns-in_default t c = room_all c.args.room _ (cost_scalar c.args.measure c.args.levels c.args.heap.now.state.cells c.args.v.now c.in_default.not-Array c.in_default.not-Dict)

pub room_after_entries-returns-in_err-left : goal.room_after_entries-returns-in_err-left
room_after_entries-returns-in_err-left t c =
    c.from_residual.ensures ∙ weighs_stop (λ (e : Key × Value). entry_cost c.args.measure e + copy_cost c.args.measure c.args.levels c.args.heap.now.state.cells e.1) _ _ c.args.entries.now c.loop-i.i _ c.entry_at.ensures c.in_err-left.ensures c.loop-i.invariant

pub room_after_entries-loop-i-preserved : goal.room_after_entries-loop-i-preserved
room_after_entries-loop-i-preserved t c =
    weighs_next (λ (e : Key × Value). entry_cost c.args.measure e + copy_cost c.args.measure c.args.levels c.args.heap.now.state.cells e.1) _ _ _ c.args.entries.now c.loop-i.i _ c.entry_at.ensures c.in_ok-left.ensures c.loop-i.invariant

pub room_after-returns-in_err-left-in-Array : goal.room_after-returns-in_err-left-in-Array
room_after-returns-in_err-left-in-Array t c =
    c.from_residual.ensures
    ∙ room_stop c.args.room (cell_cost c.args.measure) _ (c.in_err-left-in-Array.ensures ∙ ap (room_left c.args.room) c.cell_cost.ensures)
    ∙ sym (ap (room_left c.args.room) (cost_array c.args.measure c.args.levels c.args.heap.now.state.cells c.args.v.now c.in-Array.s c.in-Array.is c.if-levels-eq0.false))

pub room_after-returns-in_ok-left-in-Array : goal.room_after-returns-in_ok-left-in-Array
room_after-returns-in_ok-left-in-Array t c =
    c.room_after_items.ensures
    ∙ ap (λ (xs : List Value). room_left c.in_ok-left-in-Array.left (total (λ v. item_cost c.args.measure v + copy_cost c.args.measure (c.args.levels - 1) c.args.heap.now.state.cells v) xs)) c.items.ensures.value
    ∙ room_then c.args.room c.in_ok-left-in-Array.left (cell_cost c.args.measure) _ (c.in_ok-left-in-Array.ensures ∙ ap (room_left c.args.room) c.cell_cost.ensures)
    ∙ sym (ap (room_left c.args.room) (cost_array c.args.measure c.args.levels c.args.heap.now.state.cells c.args.v.now c.in-Array.s c.in-Array.is c.if-levels-eq0.false))

pub room_after-returns-in_err-left-in-Dict : goal.room_after-returns-in_err-left-in-Dict
room_after-returns-in_err-left-in-Dict t c =
    c.from_residual-in_err-left-in-Dict.ensures
    ∙ room_stop c.args.room (cell_cost c.args.measure) _ (c.in_err-left-in-Dict.ensures ∙ ap (room_left c.args.room) c.cell_cost-in-Dict.ensures)
    ∙ sym (ap (room_left c.args.room) (cost_dict c.args.measure c.args.levels c.args.heap.now.state.cells c.args.v.now c.in-Dict.s c.in-Dict.is c.if-levels-eq0.false))

pub room_after-returns-in_ok-left-in-Dict : goal.room_after-returns-in_ok-left-in-Dict
room_after-returns-in_ok-left-in-Dict t c =
    c.room_after_entries.ensures
    ∙ ap (λ (xs : List (Key × Value)). room_left c.in_ok-left-in-Dict.left (total {A = Key × Value} (λ e. entry_cost c.args.measure e + copy_cost c.args.measure (c.args.levels - 1) c.args.heap.now.state.cells e.1) xs)) c.entries.ensures.value
    ∙ room_then c.args.room c.in_ok-left-in-Dict.left (cell_cost c.args.measure) _ (c.in_ok-left-in-Dict.ensures ∙ ap (room_left c.args.room) c.cell_cost-in-Dict.ensures)
    ∙ sym (ap (room_left c.args.room) (cost_dict c.args.measure c.args.levels c.args.heap.now.state.cells c.args.v.now c.in-Dict.s c.in-Dict.is c.if-levels-eq0.false))
