use Rattle.std.proofs.Common.{arith, ap, ◌∙◌, sym, subst, length, length-set}
use Rattle.std.specs.List.{Contains}
use Rattle.index_lists.specs.declared.Side.{Side}
use Rattle.index_lists.specs.declared.Side.TheVariants.{First, Second}
use Rattle.index_lists.specs.Lists.{SoundLists, IsLinked, list_at}
use Rattle.index_lists.specs.Chains.{lists_from}
use Rattle.index_lists.proofs.SoundLemmas.{AreSound-sides, second_apart, pushed_there}
use Rattle.index_lists.proofs.Rows.link_last.Goals as goal

pub link_last-requires-clause-free : goal.link_last-requires-clause-free
link_last-requires-clause-free c other found =
    c.requires.free
    (subst (λ (s : SoundLists). IsLinked s.lists c.args.side c.args.node) c.self.view_is
    (subst (λ (side : Side). IsLinked (lists_from c.self.inside.first c.self.inside.second c.self.inside.moves) side c.args.node) (sym c.in-First.is) (other, found)))

pub link_last-requires-in-Second-clause-free : goal.link_last-requires-in-Second-clause-free
link_last-requires-in-Second-clause-free c other found =
    c.requires.free
    (subst (λ (s : SoundLists). IsLinked s.lists c.args.side c.args.node) c.self.view_is
    (subst (λ (side : Side). IsLinked (lists_from c.self.inside.first c.self.inside.second c.self.inside.moves) side c.args.node) (sym c.in-Second.is) (other, found)))

pub invariant_of-self-inside : goal.invariant_of-self-inside
invariant_of-self-inside c = (
  AreSound-sides c.link_last.new.self c.self.inside.second _
      (omega (arith, c.saturating_add-self-inside.ensures))
      (c.self.invariant ∙ sym c.link_last.ensures.nodes)
      (c.self.inside.sound.count Second ∙ sym (ap length c.link_last.ensures.lists ∙ length-set _ _ _))
      c.link_last.ensures.apart (second_apart c.self.inside.first c.self.inside.second _ c.self.invariant c.self.inside.sound),
  tt,
)

pub invariant_of-self-inside-in-Second : goal.invariant_of-self-inside-in-Second
invariant_of-self-inside-in-Second c = (
  AreSound-sides c.self.inside.first c.link_last-in-Second.new.self _
      (omega (arith, c.saturating_add-self-inside.ensures))
      (c.link_last-in-Second.ensures.nodes ∙ c.self.invariant)
      (ap length c.link_last-in-Second.ensures.lists ∙ length-set _ _ _ ∙ c.self.inside.sound.count Second)
      (c.self.inside.sound.apart First) c.link_last-in-Second.ensures.apart,
  tt,
)

pub returns-in-First-clause-linked : goal.returns-in-First-clause-linked
returns-in-First-clause-linked c =
    subst (λ (side : Side). IsLinked (lists_from c.link_last.new.self c.self.inside.second c.saturating_add-self-inside.result) side c.args.node) (sym c.in-First.is) (
      c.args.head,
      subst (λ lists. Contains (list_at lists c.args.head) c.args.node) (sym c.link_last.ensures.lists)
          (pushed_there c.self.inside.first.lists c.args.head c.args.node (rw (← c.self.view_is) at c.requires.head_in)),
    )

pub returns-in-Second-clause-linked : goal.returns-in-Second-clause-linked
returns-in-Second-clause-linked c =
    subst (λ (side : Side). IsLinked (lists_from c.self.inside.first c.link_last-in-Second.new.self c.saturating_add-self-inside.result) side c.args.node) (sym c.in-Second.is) (
      c.args.head,
      subst (λ lists. Contains (list_at lists c.args.head) c.args.node) (sym c.link_last-in-Second.ensures.lists)
          (pushed_there c.self.inside.second.lists c.args.head c.args.node (omega (arith, c.self.inside.sound.count Second, rw (← c.self.view_is) at c.requires.head_in))),
    )
