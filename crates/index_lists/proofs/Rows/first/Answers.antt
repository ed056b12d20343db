use Rattle.std.proofs.Common.{◌≡◌, subst, sym, slice_get, arith}
use Rattle.index_lists.specs.declared.Side.{Side}
use Rattle.index_lists.specs.declared.Side.TheVariants.{Second}
use Rattle.index_lists.specs.Lists.{SoundLists, list_of}
use Rattle.index_lists.specs.Chains.{lists_from}
use Rattle.index_lists.proofs.SoundLemmas.{first_linked, linked_in_range}
use Rattle.index_lists.proofs.Rows.first.Goals as goal
use Rattle.index_lists.proofs.Rows.first.Goals.{After-first, After-first-in-Second}

pub first-requires-in-Second : goal.first-requires-in-Second
first-requires-in-Second c = omega (arith, c.self.inside.sound.count Second, rw (← c.self.view_is) at c.requires)

value_First : (c : After-first) → c.first.result ≡ slice_get (list_of c.args.self.now.lists c.args.side c.args.head) 0
value_First c =
    subst (λ (s : SoundLists). c.first.result ≡ slice_get (list_of s.lists c.args.side c.args.head) 0) c.self.view_is
    (subst (λ (side : Side). c.first.result ≡ slice_get (list_of (lists_from c.self.inside.first c.self.inside.second c.self.inside.moves) side c.args.head) 0) (sym c.in-First.is) c.first.ensures)

pub returns-in-First-clause-linked : goal.returns-in-First-clause-linked
returns-in-First-clause-linked c =
    first_linked c.args.self.now.lists c.args.side c.args.head c.first.result (value_First (goal.at.returns-in-First-clause-linked c).After-first)

pub returns-in-First-clause-in_range : goal.returns-in-First-clause-in_range
returns-in-First-clause-in_range c =
    linked_in_range c.args.self.now.lists c.args.self.now.sound c.args.side c.first.result
    (first_linked c.args.self.now.lists c.args.side c.args.head c.first.result (value_First (goal.at.returns-in-First-clause-in_range c).After-first))

value_Second : (c : After-first-in-Second) → c.first-in-Second.result ≡ slice_get (list_of c.args.self.now.lists c.args.side c.args.head) 0
value_Second c =
    subst (λ (s : SoundLists). c.first-in-Second.result ≡ slice_get (list_of s.lists c.args.side c.args.head) 0) c.self.view_is
    (subst (λ (side : Side). c.first-in-Second.result ≡ slice_get (list_of (lists_from c.self.inside.first c.self.inside.second c.self.inside.moves) side c.args.head) 0) (sym c.in-Second.is) c.first-in-Second.ensures)

pub returns-in-Second-clause-linked : goal.returns-in-Second-clause-linked
returns-in-Second-clause-linked c =
    first_linked c.args.self.now.lists c.args.side c.args.head c.first-in-Second.result (value_Second (goal.at.returns-in-Second-clause-linked c).After-first-in-Second)

pub returns-in-Second-clause-in_range : goal.returns-in-Second-clause-in_range
returns-in-Second-clause-in_range c =
    linked_in_range c.args.self.now.lists c.args.self.now.sound c.args.side c.first-in-Second.result
    (first_linked c.args.self.now.lists c.args.side c.args.head c.first-in-Second.result (value_Second (goal.at.returns-in-Second-clause-in_range c).After-first-in-Second))
