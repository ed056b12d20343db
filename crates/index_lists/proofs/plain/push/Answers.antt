use Rattle.std.proofs.Common.{◌≡◌, ℕ, ◌<◌, [], ◌∷◌, ◌++◌, map, set, length, ap, ◌∙◌, sym, arith, Vec, Global}
use Rattle.std.proofs.lemmas.List.{map-set, get_or-map}
use Rattle.index_lists.specs.Lists.{list_at}
use Rattle.index_lists.proofs.plain.push.Goals as goal

pub returns-clause-ok : goal.returns-clause-ok
returns-clause-ok c =
    let within : c.args.head < length c.args.lists.now.items = omega arith in
    let old : list_at (map (λ (list : Vec ℕ Global). list.items) c.args.lists.now.items) c.args.head ≡ c.index_mut-list.result.now.items =
    get_or-map (λ (list : Vec ℕ Global). list.items) c.args.lists.now.items c.args.head c.index_mut-list.result.now [] within ∙ ap (λ (list : Vec ℕ Global). list.items) (sym c.index_mut-list.ensures.value) in
    map-set (λ (list : Vec ℕ Global). list.items) c.args.lists.now.items c.args.head c.push.new.self
    ∙ ap (λ nodes. set (map (λ (list : Vec ℕ Global). list.items) c.args.lists.now.items) c.args.head nodes)
    (c.in_ok-push.ensures.items ∙ ap (λ nodes. nodes ++ c.args.node ∷ []) (sym old))
