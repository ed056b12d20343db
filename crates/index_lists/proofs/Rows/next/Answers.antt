use Rattle.std.proofs.Common.{◌≡◌, ℕ, List, ◌∷◌, ◌++◌, subst, sym, slice_get, IfSome}
use Rattle.index_lists.specs.declared.Side.{Side}
use Rattle.index_lists.specs.Lists.{SoundLists, IsLinked, list_of}
use Rattle.index_lists.specs.Chains.{lists_from}
use Rattle.index_lists.proofs.SoundLemmas.{next_linked, linked_in_range}
use Rattle.index_lists.proofs.Rows.next.Goals as goal
use Rattle.index_lists.proofs.Rows.next.Goals.{After-next, After-next-in-Second}

linked_First : (c : After-next) → IfSome c.next.result (IsLinked c.args.self.now.lists c.args.side)
linked_First c =
    next_linked c.args.self.now.lists c.args.side c.args.node c.next.result c.requires
    (subst (λ (s : SoundLists). (head : ℕ) (front rest : List ℕ) → list_of s.lists c.args.side head ≡ front ++ c.args.node ∷ rest → c.next.result ≡ slice_get rest 0) c.self.view_is
    (subst (λ (side : Side). (head : ℕ) (front rest : List ℕ) → list_of (lists_from c.self.inside.first c.self.inside.second c.self.inside.moves) side head ≡ front ++ c.args.node ∷ rest → c.next.result ≡ slice_get rest 0) (sym c.in-First.is) c.next.ensures))

pub returns-in-First-clause-linked : goal.returns-in-First-clause-linked
returns-in-First-clause-linked c = linked_First (goal.at.returns-in-First-clause-linked c).After-next

pub returns-in-First-clause-in_range : goal.returns-in-First-clause-in_range
returns-in-First-clause-in_range c =
    linked_in_range c.args.self.now.lists c.args.self.now.sound c.args.side c.next.result (linked_First (goal.at.returns-in-First-clause-in_range c).After-next)

linked_Second : (c : After-next-in-Second) → IfSome c.next-in-Second.result (IsLinked c.args.self.now.lists c.args.side)
linked_Second c =
    next_linked c.args.self.now.lists c.args.side c.args.node c.next-in-Second.result c.requires
    (subst (λ (s : SoundLists). (head : ℕ) (front rest : List ℕ) → list_of s.lists c.args.side head ≡ front ++ c.args.node ∷ rest → c.next-in-Second.result ≡ slice_get rest 0) c.self.view_is
    (subst (λ (side : Side). (head : ℕ) (front rest : List ℕ) → list_of (lists_from c.self.inside.first c.self.inside.second c.self.inside.moves) side head ≡ front ++ c.args.node ∷ rest → c.next-in-Second.result ≡ slice_get rest 0) (sym c.in-Second.is) c.next-in-Second.ensures))

pub returns-in-Second-clause-linked : goal.returns-in-Second-clause-linked
returns-in-Second-clause-linked c = linked_Second (goal.at.returns-in-Second-clause-linked c).After-next-in-Second

pub returns-in-Second-clause-in_range : goal.returns-in-Second-clause-in_range
returns-in-Second-clause-in_range c =
    linked_in_range c.args.self.now.lists c.args.self.now.sound c.args.side c.next-in-Second.result (linked_Second (goal.at.returns-in-Second-clause-in_range c).After-next-in-Second)
