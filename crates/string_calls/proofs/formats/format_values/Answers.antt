use Rattle.std.proofs.Common.{◌≡◌, ◌∙◌, List, [], true, false, None, Ok, ap, sym, refl, subst}
use Rattle.variant_values.specs.declared.values.Value.{Value}
use Rattle.string_calls.specs.declared.formats.Draft.{Draft}
use Rattle.string_calls.specs.Drafts.{Fills, Stands}
use Rattle.variant_values.specs.Formats.{Directive, Formatted, formatted_value, filled_where, format_result, pieces}
use Rattle.string_calls.specs.Passes.{formatted_after}
use Rattle.string_calls.proofs.PatternPieces.{one_pass}
use Rattle.string_calls.proofs.Drafting.{stands_new, deep_result, long_result, good_result}
use Rattle.string_calls.proofs.formats.format_values.Goals as goal

pub returns-then-draft : goal.returns-then-draft
returns-then-draft c =
    let value : Directive → Value → Formatted = formatted_value c.args.heap.now.state.cells c.args.names.now in
    let first : Draft = record { out = c.new.result; is_deep = false; is_long = false } in
    let formatted : Formatted = formatted_after value 0 c.as_str.result.now c.args.values.now in
    let start : Stands first true [] = stands_new first c.new.ensures refl refl in
    let filled = subst (λ b. Fills first c.fill.new.self b formatted) c.if-not-branch.false c.in_ok-fill.ensures in
    ap format_result (ap (λ t. filled_where value (pieces t) c.args.values.now) (sym c.as_str.ensures) ∙ sym (one_pass value c.as_str.result.now 0 c.args.values.now))
    ∙ deep_result formatted first c.fill.new.self start filled c.if-draft.true

pub returns-then-draft-2 : goal.returns-then-draft-2
returns-then-draft-2 c =
    let value : Directive → Value → Formatted = formatted_value c.args.heap.now.state.cells c.args.names.now in
    let first : Draft = record { out = c.new.result; is_deep = false; is_long = false } in
    let formatted : Formatted = formatted_after value 0 c.as_str.result.now c.args.values.now in
    let start : Stands first true [] = stands_new first c.new.ensures refl refl in
    let filled = subst (λ b. Fills first c.fill.new.self b formatted) c.if-not-branch.false c.in_ok-fill.ensures in
    ap format_result (ap (λ t. filled_where value (pieces t) c.args.values.now) (sym c.as_str.ensures) ∙ sym (one_pass value c.as_str.result.now 0 c.args.values.now))
    ∙ long_result formatted first c.fill.new.self start filled c.if-draft.false c.if-draft-2.true

pub returns : goal.returns
returns c =
    let value : Directive → Value → Formatted = formatted_value c.args.heap.now.state.cells c.args.names.now in
    let first : Draft = record { out = c.new.result; is_deep = false; is_long = false } in
    let formatted : Formatted = formatted_after value 0 c.as_str.result.now c.args.values.now in
    let start : Stands first true [] = stands_new first c.new.ensures refl refl in
    let filled = subst (λ b. Fills first c.fill.new.self b formatted) c.if-not-branch.false c.in_ok-fill.ensures in
    ap format_result (ap (λ t. filled_where value (pieces t) c.args.values.now) (sym c.as_str.ensures) ∙ sym (one_pass value c.as_str.result.now 0 c.args.values.now))
    ∙ good_result formatted first c.fill.new.self start filled c.if-draft.false c.if-draft-2.false c.in_ok-finish.ensures.short
    ∙ ap Ok (sym c.in_ok-finish.ensures.value)

pub returns-then-not-branch : goal.returns-then-not-branch
returns-then-not-branch c =
    let value : Directive → Value → Formatted = formatted_value c.args.heap.now.state.cells c.args.names.now in
    let first : Draft = record { out = c.new.result; is_deep = false; is_long = false } in
    let formatted : Formatted = formatted_after value 0 c.as_str.result.now c.args.values.now in
    let bad : formatted ≡ None = subst (λ b. Fills first c.fill.new.self b formatted) c.if-not-branch.true c.in_ok-fill.ensures in
    ap format_result (ap (λ t. filled_where value (pieces t) c.args.values.now) (sym c.as_str.ensures) ∙ sym (one_pass value c.as_str.result.now 0 c.args.values.now) ∙ bad)
