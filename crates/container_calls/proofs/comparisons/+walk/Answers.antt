use Rattle.std.proofs.Common.{◌≡◌, ℕ, ◌-◌, ◌∙◌, sym, ap, arith, rules}
use Rattle.variant_values.specs.Keys.{same_key}
use Rattle.std.specs.Prelude.{option_copied}
use Rattle.variant_values.specs.declared.values.Value.{Value}
use Rattle.variant_values.specs.Comparisons.{same_at, same_items, same_entries}
use Rattle.container_calls.proofs.Walking.{at_is, items_full, items_stop, items_go, entries_full, entries_missing, entries_stop, entries_go, entry_known}
use Rattle.call_support.proofs.Finding.{found_known}
use Rattle.container_calls.proofs.comparisons.+walk.Goals as goal

pub same_items-returns-then-left-eq0 : goal.same_items-returns-then-left-eq0
same_items-returns-then-left-eq0 t c =
    items_full (λ (a b : Value) (n : ℕ). same_at c.args.heap.now.state.cells c.args.levels a b n) c.args.vs.now c.args.ws.now c.loop-i.i c.loop-i.left (same_items (λ a b n. same_at c.args.heap.now.state.cells c.args.levels a b n) c.args.vs.now c.args.ws.now c.args.room) c.loop-i-test.true (omega (arith, c.requires.size)) c.loop-i.invariant c.if-left-eq0.true

pub same_items-returns-in_default : goal.same_items-returns-in_default
same_items-returns-in_default t c =
    items_stop (λ (a b : Value) (n : ℕ). same_at c.args.heap.now.state.cells c.args.levels a b n) c.args.vs.now c.args.ws.now c.loop-i.i c.loop-i.left c.index-vs-i.result c.index-ws-i.result (same_items (λ a b n. same_at c.args.heap.now.state.cells c.args.levels a b n) c.args.vs.now c.args.ws.now c.args.room) c.same_at-walked.result c.loop-i-test.true (omega (arith, c.requires.size)) c.index-vs-i.is c.index-ws-i.is c.loop-i.invariant (omega (arith, c.if-left-eq0.false)) (c.same_at-walked.ensures ∙ sym (at_is c.args.heap.now.state.cells c.args.levels c.index-vs-i.result c.index-ws-i.result (c.loop-i.left - 1))) (sym c.left_of.ensures ∙ c.in_default.is)

pub same_items-loop-i-preserved : goal.same_items-loop-i-preserved
same_items-loop-i-preserved t c =
    items_go (λ (a b : Value) (n : ℕ). same_at c.args.heap.now.state.cells c.args.levels a b n) c.args.vs.now c.args.ws.now c.loop-i.i c.loop-i.left c.index-vs-i.result c.index-ws-i.result (same_items (λ a b n. same_at c.args.heap.now.state.cells c.args.levels a b n) c.args.vs.now c.args.ws.now c.args.room) c.same_at-walked.result c.loop-i-test.true (omega (arith, c.requires.size)) c.index-vs-i.is c.index-ws-i.is c.loop-i.invariant (omega (arith, c.if-left-eq0.false)) (c.same_at-walked.ensures ∙ sym (at_is c.args.heap.now.state.cells c.args.levels c.index-vs-i.result c.index-ws-i.result (c.loop-i.left - 1))) c.in-Some.rest (sym c.left_of.ensures ∙ c.in-Some.is)

pub same_entries-returns-then-left-eq0 : goal.same_entries-returns-then-left-eq0
same_entries-returns-then-left-eq0 t c =
    entries_full (λ (a b : Value) (n : ℕ). same_at c.args.heap.now.state.cells c.args.levels a b n) c.args.es.now c.args.fs.now c.loop-i.i c.loop-i.left (same_entries (λ a b n. same_at c.args.heap.now.state.cells c.args.levels a b n) c.args.es.now c.args.fs.now c.args.room) (omega (arith, c.len-i-end.ensures)) c.loop-i.invariant c.if-left-eq0.true

pub same_entries-returns-in_default : goal.same_entries-returns-in_default
same_entries-returns-in_default t c =
    entries_missing (λ (a b : Value) (n : ℕ). same_at c.args.heap.now.state.cells c.args.levels a b n) c.args.es.now c.args.fs.now c.loop-i.i c.loop-i.left (c.entry_at.result.0.now, c.entry_at.result.1.now) (same_entries (λ a b n. same_at c.args.heap.now.state.cells c.args.levels a b n) c.args.es.now c.args.fs.now c.args.room) c.entry_at.ensures c.loop-i.invariant (omega (arith, c.if-left-eq0.false)) (sym c.get.ensures ∙ ap (λ o. option_copied o) c.in_default.is)

pub same_entries-same_at-walked-requires : goal.same_entries-same_at-walked-requires
same_entries-same_at-walked-requires t c = (search rules, ((entry_known c.args.heap.now.state.cells c.args.es.now c.loop-i.i (c.entry_at.result.0.now, c.entry_at.result.1.now) c.requires.left c.entry_at.ensures).1, found_known c.args.heap.now.state.cells (same_key c.entry_at.result.0.now) c.args.fs.now c.in-Some.b.now c.requires.right (sym c.get.ensures ∙ ap (λ o. option_copied o) c.in-Some.is)))

pub same_entries-returns-in_default-left_of : goal.same_entries-returns-in_default-left_of
same_entries-returns-in_default-left_of t c =
    entries_stop (λ (a b : Value) (n : ℕ). same_at c.args.heap.now.state.cells c.args.levels a b n) c.args.es.now c.args.fs.now c.loop-i.i c.loop-i.left (c.entry_at.result.0.now, c.entry_at.result.1.now) (same_entries (λ a b n. same_at c.args.heap.now.state.cells c.args.levels a b n) c.args.es.now c.args.fs.now c.args.room) c.entry_at.ensures c.loop-i.invariant (omega (arith, c.if-left-eq0.false)) c.in-Some.b.now (sym c.get.ensures ∙ ap (λ o. option_copied o) c.in-Some.is) c.same_at-walked.result (c.same_at-walked.ensures ∙ sym (at_is c.args.heap.now.state.cells c.args.levels c.entry_at.result.1.now c.in-Some.b.now (c.loop-i.left - 1))) (sym c.left_of.ensures ∙ c.in_default-left_of.is)

pub same_entries-loop-i-preserved : goal.same_entries-loop-i-preserved
same_entries-loop-i-preserved t c =
    entries_go (λ (a b : Value) (n : ℕ). same_at c.args.heap.now.state.cells c.args.levels a b n) c.args.es.now c.args.fs.now c.loop-i.i c.loop-i.left (c.entry_at.result.0.now, c.entry_at.result.1.now) (same_entries (λ a b n. same_at c.args.heap.now.state.cells c.args.levels a b n) c.args.es.now c.args.fs.now c.args.room) c.entry_at.ensures c.loop-i.invariant (omega (arith, c.if-left-eq0.false)) c.in-Some.b.now (sym c.get.ensures ∙ ap (λ o. option_copied o) c.in-Some.is) c.same_at-walked.result (c.same_at-walked.ensures ∙ sym (at_is c.args.heap.now.state.cells c.args.levels c.entry_at.result.1.now c.in-Some.b.now (c.loop-i.left - 1))) c.in-Some-left_of.rest (sym c.left_of.ensures ∙ c.in-Some-left_of.is)
