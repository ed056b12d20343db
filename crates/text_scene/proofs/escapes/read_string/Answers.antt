use Rattle.std.proofs.Common.{◌≡◌, ◌∙◌, sym, ap, arith, ◌++◌, ◌+◌, length, option_to_list}
use Rattle.gd_syntax.specs.Spellings.{behind, contents}
use Rattle.gd_tokens.proofs.StringParts.{further, part_on, closed_here, broken_here, endless_here}
use Rattle.scene_syntax.specs.Values.{whole_string}
use Rattle.text_scene.proofs.Quotes.{quote_here, no_quote_here, no_string, no_end}
use Rattle.text_scene.proofs.escapes.read_string.Goals as goal

pub returns-then-c-eq34 : goal.returns-then-c-eq34
returns-then-c-eq34 c =
    let some = c.in-len1-up.len_at_least in
    let test = quote_here c.c-item.result c.loop-rest.rest.now some c.c-item.is c.if-c-eq34.true in
    c.closed_at.ensures ∙ ap (whole_string (length c.args.text.now)) (sym (closed_here 34 1 c.loop-rest.n c.loop-rest.made c.loop-rest.rest.now some test) ∙ c.loop-rest.invariant.0)

pub returns-in_default-piece_at : goal.returns-in_default-piece_at
returns-in_default-piece_at c =
    let some = c.in-len1-up.len_at_least in
    let test = no_quote_here c.c-item.result c.loop-rest.rest.now some c.c-item.is c.if-c-eq34.false in
    no_string (length c.args.text.now) (contents 34 1 0 c.args.text.now) c.loop-rest.n (sym (broken_here 34 1 c.loop-rest.n c.loop-rest.made c.loop-rest.rest.now some test (sym c.in_default-piece_at.ensures.value)) ∙ c.loop-rest.invariant.0)

pub loop-rest-preserved : goal.loop-rest-preserved
loop-rest-preserved c =
    let some = c.in-len1-up.len_at_least in
    let test = no_quote_here c.c-item.result c.loop-rest.rest.now some c.c-item.is c.if-c-eq34.false in
    let gives = option_to_list c.in-Some.piece.gives in
    let on = part_on 34 1 c.loop-rest.n c.loop-rest.made gives c.loop-rest.rest.now c.in-Some.piece.size test (sym c.in-Some.ensures.value) c.in-Some.ensures.some c.in-Some.ensures.bound in
    let made : c.extend.new.text ≡ c.loop-rest.made ++ gives = c.in_ok-extend.ensures in
    (ap (λ t. further (c.loop-rest.n + c.in-Some.piece.size) (behind t (contents 34 1 0 c.split_at.result.1.now))) made ∙ ap (λ t. further (c.loop-rest.n + c.in-Some.piece.size) (behind (c.loop-rest.made ++ gives) (contents 34 1 0 t))) c.split_at.ensures.back ∙ sym on ∙ c.loop-rest.invariant.0, omega (arith, c.split_at.ensures.back_len, c.loop-rest.invariant.1))

pub returns : goal.returns
returns c =
    no_end (length c.args.text.now) (contents 34 1 0 c.args.text.now) (sym (endless_here 34 1 c.loop-rest.n c.loop-rest.made c.loop-rest.rest.now (omega arith)) ∙ c.loop-rest.invariant.0)
