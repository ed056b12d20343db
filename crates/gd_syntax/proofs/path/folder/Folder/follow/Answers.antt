use Rattle.std.proofs.Common.{◌≡◌, lit<, arith, length, drop, [], ap, sym, ◌∙◌}
use Rattle.std.proofs.lemmas.List.{length-append, drop_all}
use Rattle.std.proofs.lemmas.Iterator.Consumers.{YieldsList-at, YieldsList-turn, YieldsList-end}
use Rattle.std.proofs.lemmas.Iterator.Splits.{YieldsList-from_str_split}
use Rattle.std.specs.declared.option.Option.TheVariants.{None, Some}
use Rattle.res_paths.specs.Paths.{segments_of}
use Rattle.gd_syntax.specs.ResPath.{entered, resolved}
use Rattle.gd_syntax.proofs.Turns.{part_unslashed, turn_on, turn_off, stopped}
use Rattle.gd_syntax.proofs.path.folder.Folder.follow.Goals as goal

pub enter-requires : goal.enter-requires
enter-requires c =
    let road = YieldsList-at c.into_iter-part-iterator.ensures.into_iter_gives (YieldsList-from_str_split 47 c.args.text.now (lit< tt) c.split-part-items.ensures.text c.split-part-items.ensures.has_more c.split-part-items.ensures.pattern) in
    let turn = YieldsList-turn road c.loop-part.yielded c.loop-part.part-iterator c.loop-part.yielded_by c.next.result c.next.new.self c.in-Some.part c.in-Some.is c.next.ensures.steps in
    part_unslashed c.args.text.now (length c.loop-part.yielded) c.in-Some.part.now turn.0 turn.1

pub loop-part-preserved : goal.loop-part-preserved
loop-part-preserved c =
    let road = YieldsList-at c.into_iter-part-iterator.ensures.into_iter_gives (YieldsList-from_str_split 47 c.args.text.now (lit< tt) c.split-part-items.ensures.text c.split-part-items.ensures.has_more c.split-part-items.ensures.pattern) in
    let turn = YieldsList-turn road c.loop-part.yielded c.loop-part.part-iterator c.loop-part.yielded_by c.next.result c.next.new.self c.in-Some.part c.in-Some.is c.next.ensures.steps in
    rw length-append (sym (turn_on c.loop-part.self c.enter.new.self (segments_of c.args.text.now) (length c.loop-part.yielded) c.in-Some.part.now turn.0 turn.1 c.in_ok-enter.ensures) ∙ c.loop-part.invariant)

pub returns-in_err-enter : goal.returns-in_err-enter
returns-in_err-enter c =
    let road = YieldsList-at c.into_iter-part-iterator.ensures.into_iter_gives (YieldsList-from_str_split 47 c.args.text.now (lit< tt) c.split-part-items.ensures.text c.split-part-items.ensures.has_more c.split-part-items.ensures.pattern) in
    let turn = YieldsList-turn road c.loop-part.yielded c.loop-part.part-iterator c.loop-part.yielded_by c.next.result c.next.new.self c.in-Some.part c.in-Some.is c.next.ensures.steps in
    stopped (entered c.loop-part.self c.in-Some.part.now) _ _ c.in_err-enter.field-0.0 c.from_residual.result c.from_residual.ensures.1
    (λ (off : entered c.loop-part.self c.in-Some.part.now ≡ None). sym c.loop-part.invariant ∙ turn_off c.loop-part.self (segments_of c.args.text.now) (length c.loop-part.yielded) c.in-Some.part.now turn.0 turn.1 off)
    c.in_err-enter.ensures

pub returns : goal.returns
returns c =
    let road = YieldsList-at c.into_iter-part-iterator.ensures.into_iter_gives (YieldsList-from_str_split 47 c.args.text.now (lit< tt) c.split-part-items.ensures.text c.split-part-items.ensures.has_more c.split-part-items.ensures.pattern) in
    let end = YieldsList-end road c.loop-part.yielded c.loop-part.part-iterator c.loop-part.yielded_by c.next.result c.next.new.self c.in-None.is c.next.ensures.steps in
    let none : drop (length c.loop-part.yielded) (segments_of c.args.text.now) ≡ [] = drop_all (length c.loop-part.yielded) (segments_of c.args.text.now) (omega (arith, end.1)) in
    sym c.loop-part.invariant ∙ ap (resolved (Some c.loop-part.self)) none
