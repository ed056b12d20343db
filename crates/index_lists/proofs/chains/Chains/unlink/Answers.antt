use Rattle.std.proofs.Common.{◌≡◌, ℕ, ◌<◌, length, map, get_or, Some, ap, ◌∙◌, sym, arith, subst, refl}
use Rattle.std.specs.Prelude.{IsSome}
use Rattle.std.proofs.lemmas.List.{get_or_read}
use Rattle.index_lists.specs.declared.chains.Link.{Link}
use Rattle.index_lists.specs.Lists.{without}
use Rattle.index_lists.specs.Chains.{Table, AreLinked, lists_between, no_link, owner}
use Rattle.index_lists.proofs.TableLemmas.{AreLinked-without, AreLinked-itself, AreLinked-lists, AreLinked-apart, linked_within, owned_within, previous_within, next_within}
use Rattle.index_lists.proofs.chains.Chains.unlink.Goals as goal
use Rattle.index_lists.proofs.chains.Chains.unlink.Goals.{After-self, After-index-link, After-join}

within : (c : After-self) → c.args.node < length c.self.inside.links.items
within c =
    let linked = rw (← c.self.view_is) at c.requires in
    linked_within _ _ _ _ _ c.self.invariant linked.0 c.args.node linked.1

-- the link that is read is the node's
read : (c : After-index-link) → ◌≡◌ {A = Link} c.index-link.result.now (get_or c.self.inside.links.items c.args.node no_link)
read c =
    let linked = rw (← c.self.view_is) at c.requires in
    let inside = linked_within _ _ _ _ _ c.self.invariant linked.0 c.args.node linked.1 in
    get_or_read c.self.inside.links.items c.args.node c.index-link.result.now inside c.index-link.ensures no_link

-- its head is that in whose list the node is
mine : (c : After-index-link) (head : ℕ) → c.index-link.result.now.head ≡ Some head → owner c.self.inside.links.items c.args.node ≡ Some head
mine c head is = ap (λ (l : Link). l.head) (sym (read c)) ∙ is

pub index-link-requires : goal.index-link-requires
index-link-requires c = omega (arith, within (goal.at.index-link-requires c).After-self)

pub unwrap-head-requires : goal.unwrap-head-requires
unwrap-head-requires c =
    let linked = rw (← c.self.view_is) at c.requires in
    subst (λ o. IsSome o) (sym (ap (λ (l : Link). l.head) (read (goal.at.unwrap-head-requires c).After-index-link) ∙ c.self.invariant.spells.owned linked.0 c.args.node linked.1)) refl

pub index_mut-requires : goal.index_mut-requires
index_mut-requires c = omega (arith, within (goal.at.index_mut-requires c).After-self)

pub join-requires-clause-head_in : goal.join-requires-clause-head_in
join-requires-clause-head_in c =
    omega (arith, (owned_within _ _ _ _ _ c.self.invariant c.unwrap-head.result c.args.node (mine (goal.at.join-requires-clause-head_in c).After-index-link c.unwrap-head.result c.unwrap-head.ensures)).1)

pub join-requires-clause-left_in : goal.join-requires-clause-left_in
join-requires-clause-left_in c other is =
    let steps = goal.at.join-requires-clause-left_in c in
    omega (arith, previous_within _ _ _ _ _ c.self.invariant c.unwrap-head.result c.args.node other (mine steps.After-index-link c.unwrap-head.result c.unwrap-head.ensures) (ap (λ (l : Link). l.previous) (sym (read steps.After-index-link)) ∙ is))

pub join-requires-clause-right_in : goal.join-requires-clause-right_in
join-requires-clause-right_in c other is =
    let steps = goal.at.join-requires-clause-right_in c in
    omega (arith, next_within _ _ _ _ _ c.self.invariant c.unwrap-head.result c.args.node other (mine steps.After-index-link c.unwrap-head.result c.unwrap-head.ensures) (ap (λ (l : Link). l.next) (sym (read steps.After-index-link)) ∙ is))

-- the lists with the node taken out
left : (c : After-join) → AreLinked c.join.new.links.items c.join.new.ends.items c.self.inside.nodes c.self.inside.heads (map (without c.args.node) (lists_between c.self.inside.links.items c.self.inside.ends.items c.self.inside.heads))
left c =
    let linked = rw (← c.self.view_is) at c.requires in
    AreLinked-without _ _ _ _ _ c.self.invariant _ _ c.unwrap-head.result c.args.node c.index-link.result.now
    (linked_within _ _ _ _ _ c.self.invariant linked.0 c.args.node linked.1) c.index-link.ensures c.unwrap-head.ensures c.join.ensures.joins c.join.ensures.owners (omega arith) (omega arith)

pub invariant_of-self : goal.invariant_of-self
invariant_of-self c = AreLinked-itself _ _ _ _ _ (left (goal.at.invariant_of-self c).After-join)

pub returns-clause-lists : goal.returns-clause-lists
returns-clause-lists c =
    AreLinked-lists _ _ _ _ _ (left (goal.at.returns-clause-lists c).After-join)
    ∙ ap (λ (t : Table). map (without c.args.node) t.lists) c.self.view_is

pub returns-clause-apart : goal.returns-clause-apart
returns-clause-apart c =
    AreLinked-apart _ _ _ _ _ (AreLinked-itself _ _ _ _ _ (left (goal.at.returns-clause-apart c).After-join))
