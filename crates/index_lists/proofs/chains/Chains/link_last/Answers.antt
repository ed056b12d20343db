use Rattle.std.proofs.Common.{◌++◌, ◌∷◌, [], ap, ◌∙◌, sym, arith, set}
use Rattle.std.proofs.lemmas.List.{get_or_read}
use Rattle.index_lists.specs.declared.chains.Ends.{Ends}
use Rattle.index_lists.specs.Lists.{list_at}
use Rattle.index_lists.specs.Chains.{Table, AreLinked, lists_between, no_ends}
use Rattle.index_lists.proofs.TableLemmas.{AreLinked-push, AreLinked-itself, AreLinked-lists, AreLinked-apart, last_within}
use Rattle.index_lists.proofs.chains.Chains.link_last.Goals as goal
use Rattle.index_lists.proofs.chains.Chains.link_last.Goals.{After-join-2}

pub join-requires-clause-left_in : goal.join-requires-clause-left_in
join-requires-clause-left_in c node is =
    let read = get_or_read c.self.inside.ends.items c.args.head c.index.result.now (omega (arith, c.self.invariant.count, c.self.invariant.head_room, rw (← c.self.view_is) at c.requires.head_in)) c.index.ensures no_ends in
    omega (arith, last_within _ _ _ _ _ c.self.invariant c.args.head node (ap (λ (e : Ends). e.last) (sym read) ∙ is))

-- the lists with the node at the end of the head's
pushed : (c : After-join-2) → AreLinked c.join-2.new.links.items c.join-2.new.ends.items c.self.inside.nodes c.self.inside.heads
    (let lists = lists_between c.self.inside.links.items c.self.inside.ends.items c.self.inside.heads in set lists c.args.head (list_at lists c.args.head ++ c.args.node ∷ []))
pushed c =
    AreLinked-push _ _ _ _ _ c.self.invariant c.join.new.links.items _ c.join.new.ends.items _ c.args.head c.args.node c.index_mut.result.now c.index.result.now
    (rw (← c.self.view_is) at c.requires.head_in) (rw (← c.self.view_is) at c.requires.node_in) (rw (← c.self.view_is) at c.requires.free)
    c.index_mut.ensures.value c.index.ensures c.join.ensures.joins c.join-2.ensures.joins c.join.ensures.owners c.join-2.ensures.owners
    (omega arith) (omega arith)

pub invariant_of-self : goal.invariant_of-self
invariant_of-self c = AreLinked-itself _ _ _ _ _ (pushed (goal.at.invariant_of-self c).After-join-2)

pub returns-clause-lists : goal.returns-clause-lists
returns-clause-lists c =
    AreLinked-lists _ _ _ _ _ (pushed (goal.at.returns-clause-lists c).After-join-2)
    ∙ ap (λ (t : Table). set t.lists c.args.head (list_at t.lists c.args.head ++ c.args.node ∷ [])) c.self.view_is

pub returns-clause-apart : goal.returns-clause-apart
returns-clause-apart c =
    AreLinked-apart _ _ _ _ _ (AreLinked-itself _ _ _ _ _ (pushed (goal.at.returns-clause-apart c).After-join-2))
