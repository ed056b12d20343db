use Rattle.std.proofs.Common.{ℕ, ◌<◌, [], ◌∷◌, ◌++◌, map, length, ap, ◌∙◌, arith, Vec, Global}
use Rattle.std.proofs.lemmas.List.{map-append, length-map}
use Rattle.index_lists.specs.Lists.{padded}
use Rattle.index_lists.proofs.PlainLemmas.{padded-push}
use Rattle.index_lists.proofs.plain.lengthen.Goals as goal

pub loop-alloc-preserved : goal.loop-alloc-preserved
loop-alloc-preserved c =
    let f = λ (list : Vec ℕ Global). list.items in
    let few : length (map f c.loop-alloc.lists.items) < c.args.heads = omega (arith, length-map c.loop-alloc.lists.items f) in
    record {
      few = omega (arith, c.in_ok-push.ensures.len);
      same = ap (λ l. padded (map f l) c.args.heads) c.in_ok-push.ensures.items
          ∙ ap (λ l. padded l c.args.heads) (map-append f c.loop-alloc.lists.items (c.new.result ∷ []) ∙ ap (λ l. map f c.loop-alloc.lists.items ++ l ∷ []) c.new.ensures.items)
          ∙ padded-push (map f c.loop-alloc.lists.items) c.args.heads few ∙ c.loop-alloc.invariant.same;
    }
