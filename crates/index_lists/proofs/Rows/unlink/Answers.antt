use Rattle.std.proofs.Common.{arith, subst, ap, ◌∙◌, sym, length}
use Rattle.std.proofs.lemmas.List.{length-map}
use Rattle.std.specs.List.{Contains}
use Rattle.index_lists.specs.declared.Side.{Side}
use Rattle.index_lists.specs.declared.Side.TheVariants.{First, Second}
use Rattle.index_lists.specs.Lists.{IsLinked, list_at}
use Rattle.index_lists.specs.Chains.{lists_from}
use Rattle.index_lists.proofs.SoundLemmas.{AreSound-sides, second_apart, nowhere_without}
use Rattle.index_lists.proofs.Rows.unlink.Goals as goal

pub invariant_of-self-inside : goal.invariant_of-self-inside
invariant_of-self-inside c = (
  AreSound-sides c.unlink.new.self c.self.inside.second _
      (omega (arith, c.saturating_add-self-inside.ensures))
      (c.self.invariant ∙ sym c.unlink.ensures.nodes)
      (c.self.inside.sound.count Second ∙ sym (ap length c.unlink.ensures.lists ∙ length-map _ _))
      c.unlink.ensures.apart (second_apart c.self.inside.first c.self.inside.second _ c.self.invariant c.self.inside.sound),
  tt,
)

pub invariant_of-self-inside-in-Second : goal.invariant_of-self-inside-in-Second
invariant_of-self-inside-in-Second c = (
  AreSound-sides c.self.inside.first c.unlink-in-Second.new.self _
      (omega (arith, c.saturating_add-self-inside.ensures))
      (c.unlink-in-Second.ensures.nodes ∙ c.self.invariant)
      (ap length c.unlink-in-Second.ensures.lists ∙ length-map _ _ ∙ c.self.inside.sound.count Second)
      (c.self.inside.sound.apart First) c.unlink-in-Second.ensures.apart,
  tt,
)

pub returns-in-First-clause-free : goal.returns-in-First-clause-free
returns-in-First-clause-free c linked =
    let there = subst (λ (side : Side). IsLinked (lists_from c.unlink.new.self c.self.inside.second c.saturating_add-self-inside.result) side c.args.node) c.in-First.is linked in
    nowhere_without c.self.inside.first.lists there.0 c.args.node (subst (λ lists. Contains (list_at lists there.0) c.args.node) c.unlink.ensures.lists there.1)

pub returns-in-Second-clause-free : goal.returns-in-Second-clause-free
returns-in-Second-clause-free c linked =
    let there = subst (λ (side : Side). IsLinked (lists_from c.self.inside.first c.unlink-in-Second.new.self c.saturating_add-self-inside.result) side c.args.node) c.in-Second.is linked in
    nowhere_without c.self.inside.second.lists there.0 c.args.node (subst (λ lists. Contains (list_at lists there.0) c.args.node) c.unlink-in-Second.ensures.lists there.1)
