use Rattle.std.proofs.Common.{◌≡◌, ap, sym, ◌∙◌, drop, chars, arith, []}
use Rattle.std.proofs.lemmas.Str.{encodes-chars}
use Rattle.variant_values.specs.StringMethods.{spelled}
use Rattle.string_calls.proofs.Cuts.{passes_char, passes_end}
use Rattle.string_calls.proofs.searches.rest_after.Goals as goal

pub loop-init : goal.loop-init
loop-init c = c.chars-rest.ensures.rest ∙ sym (encodes-chars c.args.text.now c.utf8.text)

pub loop-preserved : goal.loop-preserved
loop-preserved c = passes_char (chars c.args.text.now) _ _ c.loop.counter c.next.result _ c.loop.invariant c.next.ensures.steps.0 c.if-is_none.ensures

pub returns-then-is_none : goal.returns-then-is_none
returns-then-is_none c = passes_end (chars c.args.text.now) _ [] c.loop.counter c.args.n c.next.result _ _ c.loop-test.true c.loop.invariant c.next.ensures.steps.0 c.if-is_none.ensures

pub returns : goal.returns
returns c =
    let all : c.loop.counter ≡ c.args.n = omega arith in
    c.as_str.ensures ∙ c.loop.invariant ∙ ap (λ k. spelled (drop k (chars c.args.text.now))) all
