use Rattle.std.proofs.Common.{ap, ◌∙◌, arith, refl}
use Rattle.index_lists.specs.Chains.{Table, AreLinked, lists_between}
use Rattle.index_lists.proofs.TableLemmas.{AreLinked-longer, AreLinked-itself, AreLinked-lists}
use Rattle.index_lists.proofs.chains.Chains.reserve.Goals as goal
use Rattle.index_lists.proofs.chains.Chains.reserve.Goals.{After-lengthen, After-lengthen-2}

-- with longer links
links_longer : (c : After-lengthen) → AreLinked c.lengthen.new.items.items c.self.inside.ends.items c.self.inside.nodes c.self.inside.heads (lists_between c.self.inside.links.items c.self.inside.ends.items c.self.inside.heads)
links_longer c = AreLinked-longer _ _ _ _ _ c.self.invariant _ _ (omega (arith, c.lengthen.ensures.longer)) (omega arith) c.lengthen.ensures.same (λ i. refl)

-- and with longer ends
both_longer : (c : After-lengthen-2) → AreLinked c.lengthen.new.items.items c.lengthen-2.new.items.items c.self.inside.nodes c.self.inside.heads (lists_between c.self.inside.links.items c.self.inside.ends.items c.self.inside.heads)
both_longer c = AreLinked-longer _ _ _ _ _ c.self.invariant _ _ (omega (arith, c.lengthen.ensures.longer)) (omega (arith, c.lengthen-2.ensures.longer)) c.lengthen.ensures.same c.lengthen-2.ensures.same

pub invariant_of-self : goal.invariant_of-self
invariant_of-self c = AreLinked-itself _ _ _ _ _ (links_longer (goal.at.invariant_of-self c).After-lengthen)

pub returns-in_err-lengthen-clause-lists : goal.returns-in_err-lengthen-clause-lists
returns-in_err-lengthen-clause-lists c =
    AreLinked-lists _ _ _ _ _ (links_longer (goal.at.returns-in_err-lengthen-clause-lists c).After-lengthen) ∙ ap (λ (t : Table). t.lists) c.self.view_is

pub invariant_of-self-in_err-lengthen-2 : goal.invariant_of-self-in_err-lengthen-2
invariant_of-self-in_err-lengthen-2 c = AreLinked-itself _ _ _ _ _ (both_longer (goal.at.invariant_of-self-in_err-lengthen-2 c).After-lengthen-2)

pub returns-in_err-lengthen-2-clause-lists : goal.returns-in_err-lengthen-2-clause-lists
returns-in_err-lengthen-2-clause-lists c =
    AreLinked-lists _ _ _ _ _ (both_longer (goal.at.returns-in_err-lengthen-2-clause-lists c).After-lengthen-2) ∙ ap (λ (t : Table). t.lists) c.self.view_is

pub invariant_of-self-2 : goal.invariant_of-self-2
invariant_of-self-2 c = AreLinked-itself _ _ _ _ _ (both_longer (goal.at.invariant_of-self-2 c).After-lengthen-2)

pub returns-clause-lists : goal.returns-clause-lists
returns-clause-lists c =
    AreLinked-lists _ _ _ _ _ (both_longer (goal.at.returns-clause-lists c).After-lengthen-2) ∙ ap (λ (t : Table). t.lists) c.self.view_is
