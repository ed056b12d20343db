use Rattle.std.proofs.Common.{ap, ◌∙◌, arith}
use Rattle.std.proofs.lemmas.List.{get_or_read}
use Rattle.index_lists.specs.declared.chains.Link.{Link}
use Rattle.index_lists.specs.Lists.{list_at}
use Rattle.index_lists.specs.Chains.{Table, no_link}
use Rattle.index_lists.proofs.TableLemmas.{linked_within, next_of}
use Rattle.index_lists.proofs.chains.Chains.next.Goals as goal

pub index-requires : goal.index-requires
index-requires c =
    let linked = rw (← c.self.view_is) at c.requires in
    omega (arith, linked_within _ _ _ _ _ c.self.invariant linked.0 c.args.node linked.1)

pub returns : goal.returns
returns c head front rest is =
    let linked = rw (← c.self.view_is) at c.requires in
    let within = linked_within _ _ _ _ _ c.self.invariant linked.0 c.args.node linked.1 in
    ap (λ (l : Link). l.next) (get_or_read c.self.inside.links.items c.args.node c.index.result.now within c.index.ensures no_link)
    ∙ next_of _ _ _ _ _ c.self.invariant head c.args.node front rest (ap (λ (t : Table). list_at t.lists head) c.self.view_is ∙ is)
