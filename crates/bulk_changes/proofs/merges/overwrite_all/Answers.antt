use Rattle.std.proofs.Common.{◌≡◌, ◌∙◌, ap, true}
use Rattle.variant_values.specs.DictMethods.{entries_in, merged, with_entries}
use Rattle.bulk_changes.proofs.Merging.{after_ok, other_stays, then_put}
use Rattle.bulk_changes.proofs.merges.overwrite_all.Goals as goal

pub returns-clause-ok : goal.returns-clause-ok
returns-clause-ok c =
    let old = c.args.heap.now.state in
    let mid = c.set_nulls.new.heap.state in
    let x = c.args.of.0 in
    let y = c.args.other.0 in
    let nulls = c.in_ok-set_nulls.ensures.ok in
    let stays = other_stays old mid x y c.requires.apart nulls.same in
    after_ok (c.enter_all.new.heap.state ≡ with_entries mid x (merged true (entries_in mid x) (entries_in mid y))) (c.enter_all.new.heap.state ≡ with_entries old x (merged true (entries_in old x) (entries_in old y))) c.enter_all.result (λ e. e ∙ ap (λ fs. with_entries mid x (merged true (entries_in mid x) fs)) stays ∙ then_put old x c.requires.dict mid (merged true (entries_in mid x) (entries_in old y)) nulls.same ∙ ap (with_entries old x) nulls.outcome) c.enter_all.ensures.ok
