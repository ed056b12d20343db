use Rattle.std.proofs.Common.{◌≡◌, ◌<◌, ◌-◌, ◌+◌, length, get_or, drop, sym, ap, subst, ◌∙◌, arith, ℕ, List, true}
use Rattle.std.specs.Str.{IsCharBoundary}
use Rattle.std.proofs.lemmas.Str.{IsCharBoundary-after_ascii}
use Rattle.variant_values.specs.declared.values.Value.{Value}
use Rattle.string_calls.specs.Directives.{directive_of}
use Rattle.string_calls.specs.Drafts.{Fills}
use Rattle.variant_values.specs.Formats.{Directive, Formatted, formatted_value, directive_at}
use Rattle.string_calls.proofs.Drafting.{percent_twice, percent_directive, percent_first, cons_of}
use Rattle.string_calls.proofs.formats.Draft.take_directive.Goals as goal

pub returns-then-begins_with-clause-step : goal.returns-then-begins_with-clause-step
returns-then-begins_with-clause-step c =
    (_, (_, (percent_twice (formatted_value c.args.heap.now.state.cells c.args.names.now) c.args.after.now c.args.left.now (sym c.if-begins_with.ensures), c.in_ok-add.ensures)))

pub returns-then-begins_with-clause-bounds : goal.returns-then-begins_with-clause-bounds
returns-then-begins_with-clause-bounds c =
    let first = percent_first c.args.after.now (sym c.if-begins_with.ensures) in
    (IsCharBoundary-after_ascii c.args.after.now 0 c.utf8.after first.0 (omega (arith, first.1)), omega arith)

pub returns-clause-step : goal.returns-clause-step
returns-clause-step c =
    let value : Directive → Value → Formatted = formatted_value c.args.heap.now.state.cells c.args.names.now in
    let added = subst (λ b. Fills c.args.self.now c.add_value.new.self b (value (directive_of c.in-Some.d) c.v-item.result)) c.if-not-branch.false c.in_ok-add_value.ensures in
    let is = ap directive_at (sym c.as_bytes.ensures.value) ∙ sym c.in-Some.ensures.parts in
    let left : List Value = c.args.left.now in
    (added.0, (added.1.0, (percent_directive value c.args.after.now left (drop 1 left) (directive_of c.in-Some.d) c.v-item.result added.0 added.1.0 (sym c.if-begins_with.ensures) is (cons_of left c.v-item.result (omega arith) c.v-item.is) added.1.1.0, added.1.1.1)))

pub returns-clause-bounds : goal.returns-clause-bounds
returns-clause-bounds c =
    let after : List ℕ = c.args.after.now in
    let size : ℕ = c.in-Some.d.size in
    let some : 0 < size = c.in-Some.ensures.last.0 in
    let within = subst (λ (t : List ℕ). (size - 1 < length t) × (get_or t (size - 1) 0 < 128)) c.as_bytes.ensures.value (omega (arith, c.in-Some.ensures.last.1), c.in-Some.ensures.last.2) in
    let end : size - 1 + 1 ≡ size = omega arith in
    (subst (IsCharBoundary after) end (IsCharBoundary-after_ascii after (size - 1) c.utf8.after within.0 within.1), omega arith)
