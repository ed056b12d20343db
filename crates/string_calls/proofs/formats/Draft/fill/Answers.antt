use Rattle.std.proofs.Common.{◌≡◌, ◌<◌, ◌≤◌, ℕ, List, [], true, None, length, drop, sym, ap, subst, arith, IfSome}
use Rattle.std.specs.Str.{IsUtf8, IsCharBoundary}
use Rattle.std.proofs.lemmas.Str.{IsUtf8-drop}
use Rattle.std.proofs.lemmas.List.Elements.{All-drop}
use Rattle.std.proofs.lemmas.Bool.Decides.{nat_tests}
use Rattle.variant_values.specs.declared.values.Value.{Value}
use Rattle.variant_values.specs.Heaps.{knows, KnowsAll}
use Rattle.string_calls.specs.Drafts.{Takes}
use Rattle.variant_values.specs.Formats.{Directive, Formatted, formatted_value}
use Rattle.string_calls.specs.Passes.{formatted_after}
use Rattle.string_calls.proofs.Drafting.{followed_nothing, grows_nothing, fill_step, fill_bad, fill_more_values, fill_end}
use Rattle.string_calls.proofs.formats.Draft.fill.Goals as goal

pub loop-before-init : goal.loop-before-init
loop-before-init c = record {
  utf8 = c.utf8.pattern;
  known = c.requires;
  filled = (true, ([], (followed_nothing _, grows_nothing c.args.self.now)));
}

pub loop-before-preserved : goal.loop-before-preserved
loop-before-preserved c =
    let value : Directive → Value → Formatted = formatted_value c.args.heap.now.state.cells c.args.names.now in
    let after : List ℕ = c.in-Some.after.now in
    let left : List Value = c.loop-before.left.now in
    let so_far = c.loop-before.invariant.filled in
    let bounds = subst (λ o. IfSome o (λ t. IsCharBoundary after t.bytes × (t.values ≤ length left))) c.in-Some-2.is c.in_ok-taken.ensures.bounds in
    let step = subst (λ o. Takes c.add.new.self c.take_directive.new.self value o after left) c.in-Some-2.is c.in_ok-taken.ensures.step in
    record {
      utf8 = subst IsUtf8 (sym c.split_at.ensures.back) (IsUtf8-drop after c.in-Some-2.taken.bytes c.in-Some.ensures.utf8 bounds.0);
      known = subst (KnowsAll c.args.heap.now.state.cells) (sym c.split_at-in-Some.ensures.back) (All-drop (λ v. knows c.args.heap.now.state.cells v ≡ true) c.in-Some-2.taken.values left c.loop-before.invariant.known);
      filled = fill_step value (formatted_after value 0 c.args.pattern.now c.args.values.now) c.args.self.now c.loop-before.self c.add.new.self c.take_directive.new.self so_far.0 step.0 so_far.1.0 c.in-Some.before.now step.1.0 c.loop-before.rest.now after c.split_at.result.1.now left c.split_at-in-Some.result.1.now c.in-Some-2.taken.bytes c.in-Some-2.taken.values so_far.1.1.0 so_far.1.1.1 c.in-Some.ensures.parts c.in_ok-add.ensures step.1.1.0 step.1.1.1 c.split_at.ensures.back c.split_at-in-Some.ensures.back;
    }

pub returns-in_default-2 : goal.returns-in_default-2
returns-in_default-2 c =
    let value : Directive → Value → Formatted = formatted_value c.args.heap.now.state.cells c.args.names.now in
    let so_far = c.loop-before.invariant.filled in
    let step = subst (λ o. Takes c.add.new.self c.take_directive.new.self value o c.in-Some.after.now c.loop-before.left.now) c.in_default-2.is c.in_ok-taken.ensures.step in
    fill_bad value (formatted_after value 0 c.args.pattern.now c.args.values.now) so_far.0 so_far.1.0 c.in-Some.before.now c.loop-before.rest.now c.in-Some.after.now c.loop-before.left.now so_far.1.1.0 c.in-Some.ensures.parts step

pub returns-then-not-is_empty : goal.returns-then-not-is_empty
returns-then-not-is_empty c =
    let value : Directive → Value → Formatted = formatted_value c.args.heap.now.state.cells c.args.names.now in
    let so_far = c.loop-before.invariant.filled in
    let some : 0 < length c.loop-before.left.now = grind (arith, nat_tests) in
    fill_more_values value (formatted_after value 0 c.args.pattern.now c.args.values.now) so_far.0 so_far.1.0 c.loop-before.rest.now c.loop-before.left.now so_far.1.1.0 c.in_default.ensures.parts some

pub returns : goal.returns
returns c =
    let value : Directive → Value → Formatted = formatted_value c.args.heap.now.state.cells c.args.names.now in
    let so_far = c.loop-before.invariant.filled in
    let none : length c.loop-before.left.now ≡ 0 = grind (arith, nat_tests) in
    fill_end value (formatted_after value 0 c.args.pattern.now c.args.values.now) c.args.self.now c.loop-before.self c.add-2.new.self so_far.0 so_far.1.0 c.loop-before.rest.now c.loop-before.left.now so_far.1.1.0 so_far.1.1.1 c.in_default.ensures.parts none c.in_ok-add-2.ensures
