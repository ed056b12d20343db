use Rattle.std.proofs.Common.{ap, ◌∙◌, arith}
use Rattle.index_lists.specs.Lists.{padded}
use Rattle.index_lists.specs.Chains.{Table, AreLinked, lists_between}
use Rattle.index_lists.proofs.TableLemmas.{AreLinked-padded, AreLinked-itself, AreLinked-lists, AreLinked-apart}
use Rattle.index_lists.proofs.chains.Chains.widen.Goals as goal
use Rattle.index_lists.proofs.chains.Chains.widen.Goals.{After-self}

-- the lists with the new ones after them
wider : (c : After-self) → AreLinked c.self.inside.links.items c.self.inside.ends.items c.args.nodes c.args.heads (padded (lists_between c.self.inside.links.items c.self.inside.ends.items c.self.inside.heads) c.args.heads)
wider c =
    AreLinked-padded _ _ _ _ _ c.self.invariant c.args.nodes c.args.heads
    (rw (← c.self.view_is) at c.requires.more_nodes)
    (omega (arith, c.self.invariant.count, rw (← c.self.view_is) at c.requires.more_heads))
    (rw (← c.self.view_is) at c.requires.node_room)
    (rw (← c.self.view_is) at c.requires.head_room)

pub invariant_of-self : goal.invariant_of-self
invariant_of-self c = AreLinked-itself _ _ _ _ _ (wider (goal.at.invariant_of-self c).After-self)

pub returns-clause-lists : goal.returns-clause-lists
returns-clause-lists c =
    AreLinked-lists _ _ _ _ _ (wider (goal.at.returns-clause-lists c).After-self)
    ∙ ap (λ (t : Table). padded t.lists c.args.heads) c.self.view_is

pub returns-clause-apart : goal.returns-clause-apart
returns-clause-apart c =
    AreLinked-apart _ _ _ _ _ (AreLinked-itself _ _ _ _ _ (wider (goal.at.returns-clause-apart c).After-self))
