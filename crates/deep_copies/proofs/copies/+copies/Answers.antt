use Rattle.std.proofs.Common.{◌≡◌, ◌+◌, ◌≤◌, ◌++◌, ◌∷◌, [], ◌∙◌, ap, sym, subst, rules, drop, true, List, Some}
use Rattle.std.specs.Prelude.{IfOk}
use Rattle.variant_values.specs.declared.values.Key.{Key}
use Rattle.variant_values.specs.declared.values.Value.{Value}
use Rattle.variant_values.specs.Copies.{copied, copied_items, copied_entries}
use Rattle.variant_values.specs.Heaps.{Heap, cell_at, entries_of, is_array, is_dict, items_of, KnowsAll, KnowsEntries}
use Rattle.variant_values.specs.Keys.{HasKeysOnce}
use Rattle.variant_values.proofs.Knowing.{array_within, dict_within}
use Rattle.deep_copies.specs.CopyWeights.{Fits}
use Rattle.deep_copies.proofs.Levels.{copied_last, copied_scalar, copied_array, copied_dict}
use Rattle.deep_copies.proofs.Growth.{copied_grown}
use Rattle.deep_copies.proofs.Copying.{item_fits, item_next, item_was, entry_fits, entry_next, entry_was, entered_last, once_next, key_keeps, cell_stays, items_more, entries_more, if_shared, Copying, CopyingEntries}
use Rattle.deep_copies.proofs.copies.+copies.Goals as goal

pub copy_value-copy_array-requires : goal.copy_value-copy_array-requires
copy_value-copy_array-requires t c = (search rules, (search rules, subst (λ (d : Value × Heap). Fits d.1.cells) (copied_array c.args.levels c.args.heap.now.state c.args.v.now c.in-Array.s c.in-Array.is c.if-levels-eq0.false) c.requires.fits))

pub copy_value-returns-in-Array-clause-copy : goal.copy_value-returns-in-Array-clause-copy
copy_value-returns-in-Array-clause-copy t c = subst (λ (d : Value × Heap). IfOk c.copy_array.result (λ w. (w, c.copy_array.new.heap.state) ≡ d)) (sym (copied_array c.args.levels c.args.heap.now.state c.args.v.now c.in-Array.s c.in-Array.is c.if-levels-eq0.false)) c.copy_array.ensures.copy

pub copy_value-copy_dict-requires : goal.copy_value-copy_dict-requires
copy_value-copy_dict-requires t c = (search rules, (search rules, subst (λ (d : Value × Heap). Fits d.1.cells) (copied_dict c.args.levels c.args.heap.now.state c.args.v.now c.in-Dict.s c.in-Dict.is c.if-levels-eq0.false) c.requires.fits))

pub copy_value-returns-in-Dict-clause-copy : goal.copy_value-returns-in-Dict-clause-copy
copy_value-returns-in-Dict-clause-copy t c = subst (λ (d : Value × Heap). IfOk c.copy_dict.result (λ w. (w, c.copy_dict.new.heap.state) ≡ d)) (sym (copied_dict c.args.levels c.args.heap.now.state c.args.v.now c.in-Dict.s c.in-Dict.is c.if-levels-eq0.false)) c.copy_dict.ensures.copy

pub copy_value-returns-then-levels-eq0-clause-copy : goal.copy_value-returns-then-levels-eq0-clause-copy
copy_value-returns-then-levels-eq0-clause-copy t c = if_shared c.shared.result c.args.heap.now.state c.args.v.now _ (copied_last c.args.levels c.args.heap.now.state c.args.v.now c.if-levels-eq0.true) c.shared.ensures

pub copy_value-returns-in_default-clause-copy : goal.copy_value-returns-in_default-clause-copy
copy_value-returns-in_default-clause-copy t c = if_shared c.shared-in_default.result c.args.heap.now.state c.args.v.now _ (copied_scalar c.args.levels c.args.heap.now.state c.args.v.now c.in_default.not-Array c.in_default.not-Dict) c.shared-in_default.ensures

pub copy_entries-copy_value-requires : goal.copy_entries-copy_value-requires
copy_entries-copy_value-requires t c =
    let from = entries_of (cell_at c.args.heap.now.state.cells c.args.of.0) in
    let at = entry_was _ _ c.loop-i.i c.in_ok-key.key c.in_ok-key.v c.loop-i.invariant.stays c.in_ok-key.ensures.value in
    (search rules, (c.in_ok-key.ensures.known, entry_fits (copied c.args.levels) (copied_grown c.args.levels) c.loop-i.heap.state c.loop-i.copy from c.loop-i.i c.in_ok-key.key c.in_ok-key.v (copied_entries (copied c.args.levels) c.args.heap.now.state from) at c.loop-i.invariant.whole c.requires.fits))

pub copy_entries-loop-i-preserved : goal.copy_entries-loop-i-preserved
copy_entries-loop-i-preserved t c =
    let from = entries_of (cell_at c.args.heap.now.state.cells c.args.of.0) in
    let k = c.in_ok-key.key in
    let v = c.in_ok-key.v in
    let w = c.in_ok-inner.inner in
    let at = entry_was _ _ c.loop-i.i k v c.loop-i.invariant.stays c.in_ok-key.ensures.value in
    let entered : c.enter.new.entries ≡ c.loop-i.copy ++ (k, w) ∷ [] = c.in_ok-enter.ensures ∙ entered_last c.loop-i.copy from c.loop-i.i k v w at c.loop-i.invariant.once in
    let back = sym entered in
    let keeps = c.in_ok-inner.ensures.keeps in
    record {
      done = subst (λ (es : List (Key × Value)). KnowsEntries c.copy_value.new.heap.state.cells es) back (entries_more c.loop-i.heap.state.cells c.copy_value.new.heap.state.cells c.loop-i.copy k w keeps c.loop-i.invariant.done (key_keeps c.loop-i.heap.state.cells c.copy_value.new.heap.state.cells k keeps c.in_ok-key.ensures.key) c.in_ok-inner.ensures.known);
      keeps = λ x known. keeps x (c.loop-i.invariant.keeps x known);
      kept = λ x. c.in_ok-inner.ensures.kept x ∙ c.loop-i.invariant.kept x;
      stays = cell_stays c.args.levels c.loop-i.heap.state c.copy_value.new.heap.state v w c.args.of.0 c.in_ok-inner.ensures.copy (dict_within c.loop-i.heap.state.cells c.args.of.0 (ap is_dict c.loop-i.invariant.stays ∙ c.requires.known)) ∙ c.loop-i.invariant.stays;
      once = subst (λ (es : List (Key × Value)). HasKeysOnce (es ++ drop (c.loop-i.i + 1) from)) back (once_next c.loop-i.copy from c.loop-i.i k v w at c.loop-i.invariant.once);
      whole = subst (λ (es : List (Key × Value)). CopyingEntries (copied c.args.levels) c.copy_value.new.heap.state es (drop (c.loop-i.i + 1) from) (copied_entries (copied c.args.levels) c.args.heap.now.state from)) back (entry_next (copied c.args.levels) (copied_grown c.args.levels) c.loop-i.heap.state c.copy_value.new.heap.state c.loop-i.copy from c.loop-i.i k v w (copied_entries (copied c.args.levels) c.args.heap.now.state from) at c.in_ok-inner.ensures.copy c.loop-i.invariant.whole);
    }

pub copy_items-copy_value-requires : goal.copy_items-copy_value-requires
copy_items-copy_value-requires t c =
    let from = items_of (cell_at c.args.heap.now.state.cells c.args.of.0) in
    let at = item_was _ _ c.loop-i.i c.in_ok-v.v c.loop-i.invariant.stays c.in_ok-v.ensures.value in
    (search rules, (c.in_ok-v.ensures.known, item_fits (copied c.args.levels) (copied_grown c.args.levels) c.loop-i.heap.state c.loop-i.copy.items from c.loop-i.i c.in_ok-v.v (copied_items (copied c.args.levels) c.args.heap.now.state from) at c.loop-i.invariant.whole c.requires.fits))

pub copy_items-loop-i-preserved : goal.copy_items-loop-i-preserved
copy_items-loop-i-preserved t c =
    let from = items_of (cell_at c.args.heap.now.state.cells c.args.of.0) in
    let v = c.in_ok-v.v in
    let w = c.in_ok-copy_value.field-0 in
    let at = item_was _ _ c.loop-i.i v c.loop-i.invariant.stays c.in_ok-v.ensures.value in
    let pushed : c.push.new.self.items ≡ c.loop-i.copy.items ++ w ∷ [] = c.in_ok-push.ensures.items in
    let back = sym pushed in
    let keeps = c.in_ok-copy_value.ensures.keeps in
    record {
      done = subst (λ (vs : List Value). KnowsAll c.copy_value.new.heap.state.cells vs) back (items_more c.loop-i.heap.state.cells c.copy_value.new.heap.state.cells c.loop-i.copy.items w keeps c.loop-i.invariant.done c.in_ok-copy_value.ensures.known);
      keeps = λ x known. keeps x (c.loop-i.invariant.keeps x known);
      kept = λ x. c.in_ok-copy_value.ensures.kept x ∙ c.loop-i.invariant.kept x;
      stays = cell_stays c.args.levels c.loop-i.heap.state c.copy_value.new.heap.state v w c.args.of.0 c.in_ok-copy_value.ensures.copy (array_within c.loop-i.heap.state.cells c.args.of.0 (ap is_array c.loop-i.invariant.stays ∙ c.requires.known)) ∙ c.loop-i.invariant.stays;
      whole = subst (λ (vs : List Value). Copying (copied c.args.levels) c.copy_value.new.heap.state vs (drop (c.loop-i.i + 1) from) (copied_items (copied c.args.levels) c.args.heap.now.state from)) back (item_next (copied c.args.levels) (copied_grown c.args.levels) c.loop-i.heap.state c.copy_value.new.heap.state c.loop-i.copy.items from c.loop-i.i v w (copied_items (copied c.args.levels) c.args.heap.now.state from) at c.in_ok-copy_value.ensures.copy c.loop-i.invariant.whole);
    }
