use Rattle.std.proofs.Common.{◌≡◌, ◌∙◌, sym, ap, arith, ◌++◌, ◌+◌, option_to_list}
use Rattle.gd_syntax.specs.Spellings.{behind, contents}
use Rattle.gd_tokens.proofs.StringParts.{further, part_on, closed_here, broken_here, endless_here}
use Rattle.gd_tokens.proofs.strings.read_contents.Goals as goal

pub returns-then-repeats-clause-value : goal.returns-then-repeats-clause-value
returns-then-repeats-clause-value c =
    sym (closed_here c.args.quote c.args.count c.loop-rest.n c.loop-rest.made c.loop-rest.rest.now (omega arith) (sym c.repeats.ensures.value ∙ c.if-repeats.true)) ∙ c.loop-rest.invariant.0

pub returns-in_default-piece_at-clause-value : goal.returns-in_default-piece_at-clause-value
returns-in_default-piece_at-clause-value c =
    sym (broken_here c.args.quote c.args.count c.loop-rest.n c.loop-rest.made c.loop-rest.rest.now (omega arith) (sym c.repeats.ensures.value ∙ c.if-repeats.false) (sym c.in_default-piece_at.ensures.value)) ∙ c.loop-rest.invariant.0

pub loop-rest-preserved : goal.loop-rest-preserved
loop-rest-preserved c =
    let gives = option_to_list c.in-Some.piece.gives in
    let q = c.args.quote in
    let count = c.args.count in
    let on = part_on q count c.loop-rest.n c.loop-rest.made gives c.loop-rest.rest.now c.in-Some.piece.size (sym c.repeats.ensures.value ∙ c.if-repeats.false) (sym c.in-Some.ensures.value) c.in-Some.ensures.some c.in-Some.ensures.bound in
    let made : c.extend.new.text ≡ c.loop-rest.made ++ gives = c.in_ok-extend.ensures in
    (ap (λ t. further (c.loop-rest.n + c.in-Some.piece.size) (behind t (contents q count 0 c.split_at.result.1.now))) made ∙ ap (λ t. further (c.loop-rest.n + c.in-Some.piece.size) (behind (c.loop-rest.made ++ gives) (contents q count 0 t))) c.split_at.ensures.back ∙ sym on ∙ c.loop-rest.invariant.0, omega (arith, c.split_at.ensures.back_len, c.loop-rest.invariant.1))

pub returns-clause-value : goal.returns-clause-value
returns-clause-value c = sym (endless_here c.args.quote c.args.count c.loop-rest.n c.loop-rest.made c.loop-rest.rest.now (omega arith)) ∙ c.loop-rest.invariant.0
