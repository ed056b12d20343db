use Rattle.std.proofs.Common.{◌≤◌, ap, ◌∙◌, sym, length, arith}
use Rattle.index_lists.specs.declared.Side.TheVariants.{Second}
use Rattle.index_lists.proofs.SoundLemmas.{AreSound-sides, length-padded}
use Rattle.index_lists.proofs.Rows.grow.Goals as goal

pub widen-requires-2-clause-more_heads : goal.widen-requires-2-clause-more_heads
widen-requires-2-clause-more_heads c =
    omega (arith, ap length c.in_ok-reserve-2.ensures.lists, c.self.inside.sound.count Second, rw (← c.self.view_is) at c.requires.heads_stay)

pub invariant_of-self-inside-2 : goal.invariant_of-self-inside-2
invariant_of-self-inside-2 c =
    let first_heads : length c.reserve.new.self.lists ≤ c.args.heads =
    omega (arith, ap length c.in_ok-reserve.ensures.lists, rw (← c.self.view_is) at c.requires.heads_stay) in
    let second_heads : length c.reserve-2.new.self.lists ≤ c.args.heads =
    omega (arith, ap length c.in_ok-reserve-2.ensures.lists, c.self.inside.sound.count Second, rw (← c.self.view_is) at c.requires.heads_stay) in (
      AreSound-sides c.widen.new.self c.widen-2.new.self c.self.inside.moves
          c.self.inside.sound.few_moves
          (c.widen-2.ensures.nodes ∙ sym c.widen.ensures.nodes)
          (ap length c.widen-2.ensures.lists ∙ length-padded _ _ second_heads ∙ sym (ap length c.widen.ensures.lists ∙ length-padded _ _ first_heads))
          c.widen.ensures.apart c.widen-2.ensures.apart,
      tt,
    )
