use Rattle.std.proofs.Common.{◌<◌, length, ap, ◌∙◌, arith, slice_get}
use Rattle.std.proofs.lemmas.List.{get_or_read}
use Rattle.index_lists.specs.declared.chains.Ends.{Ends}
use Rattle.index_lists.specs.Lists.{list_at}
use Rattle.index_lists.specs.Chains.{Table, no_ends}
use Rattle.index_lists.proofs.TableLemmas.{first_of}
use Rattle.index_lists.proofs.chains.Chains.first.Goals as goal

pub returns : goal.returns
returns c =
    let within : c.args.head < length c.self.inside.ends.items = omega (arith, c.self.invariant.count, c.self.invariant.head_room, rw (← c.self.view_is) at c.requires) in
    ap (λ (e : Ends). e.first) (get_or_read c.self.inside.ends.items c.args.head c.index.result.now within c.index.ensures no_ends)
    ∙ first_of _ _ _ _ _ c.self.invariant c.args.head
    ∙ ap (λ (t : Table). slice_get (list_at t.lists c.args.head) 0) c.self.view_is
