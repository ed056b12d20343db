use Rattle.std.proofs.Common.{◌≡◌, ◌+◌, ◌*◌, ◌++◌, drop, codes}
use Rattle.std.specs.List.{flat_map}
use Rattle.variant_values.specs.ValueTexts.{text_in, shown, entry_text}
use Rattle.string_calls.proofs.texts.+texts.Given as goal

abbrev pub decreases-write_value : goal.decreases-write_value
decreases-write_value l = 5 * l.levels

abbrev pub decreases-write_shown : goal.decreases-write_shown
decreases-write_shown l = 5 * l.levels + 1

abbrev pub decreases-write_items : goal.decreases-write_items
decreases-write_items l = 5 * l.levels + 2

abbrev pub decreases-write_array : goal.decreases-write_array
decreases-write_array l = 5 * l.levels + 3

abbrev pub decreases-write_entry : goal.decreases-write_entry
decreases-write_entry l = 5 * l.levels + 2

abbrev pub decreases-write_entries : goal.decreases-write_entries
decreases-write_entries l = 5 * l.levels + 3

abbrev pub decreases-write_dict : goal.decreases-write_dict
decreases-write_dict l = 5 * l.levels + 4

abbrev pub invariant-write_items-loop-v : goal.invariant-write_items-loop-v
invariant-write_items-loop-v l =
    l.out ++ flat_map (λ v. codes ", " ++ shown (text_in l.levels l.heap.state.cells l.names) v) (drop l.v-index l.others) ≡ l.initial.out ++ flat_map (λ v. codes ", " ++ shown (text_in l.levels l.heap.state.cells l.names) v) l.others

abbrev pub invariant-write_entries-loop-i : goal.invariant-write_entries-loop-i
invariant-write_entries-loop-i l =
    l.out ++ flat_map (λ e. codes ", " ++ entry_text l.heap.state.cells l.names (text_in l.levels l.heap.state.cells l.names) e) (drop l.i l.entries) ≡ l.initial.out ++ flat_map (λ e. codes ", " ++ entry_text l.heap.state.cells l.names (text_in l.levels l.heap.state.cells l.names) e) (drop 1 l.entries)
