use Rattle.std.proofs.Common.{◌≡◌, ℕ, ◌<◌, length, ap, ◌∙◌, arith, subst}
use Rattle.std.specs.Prelude.{IsTrue, ◌↔◌, is_some}
use Rattle.std.specs.List.{Contains}
use Rattle.std.proofs.lemmas.List.{get_or_read}
use Rattle.index_lists.specs.declared.chains.Link.{Link}
use Rattle.index_lists.specs.Lists.{list_at}
use Rattle.index_lists.specs.Chains.{Table, no_link, owner}
use Rattle.index_lists.proofs.TableLemmas.{linked_where_owned}
use Rattle.index_lists.proofs.chains.Chains.linked.Goals as goal

pub returns : goal.returns
returns c =
    let within : c.args.node < length c.self.inside.links.items = omega (arith, c.self.invariant.node_room, rw (← c.self.view_is) at c.requires) in
    let read : c.is_some.result ≡ is_some (owner c.self.inside.links.items c.args.node) =
    c.is_some.ensures ∙ ap (λ (l : Link). is_some l.head) (get_or_read c.self.inside.links.items c.args.node c.index.result.now within c.index.ensures no_link) in
    subst (λ (t : Table). IsTrue c.is_some.result ↔ ((head : ℕ) × Contains (list_at t.lists head) c.args.node)) c.self.view_is
    (rw read (linked_where_owned _ _ _ _ _ c.self.invariant c.args.node))
