use Rattle.std.proofs.Common.{◌≡◌, ◌∙◌, true, inl, inr, refl, sym, subst, arith, get_or}
use Rattle.stage_core.specs.Rows.{log_of}
use Rattle.stage_core.specs.Machine.{outcomes, is_done_at}
use Rattle.stage_core.specs.Stages.{stage_needed}
use Rattle.stage_core.proofs.Reach.{Contains-take_more, Contains-taken}
use Rattle.stage_core.proofs.ready.all_done.Goals as goal

pub loop-other-preserved : goal.loop-other-preserved
loop-other-preserved g c other there =
    elim (Contains-take_more c.args.others.now c.loop-other.other-index other c.loop-other-test.true there) [
      | inl h ↦ c.loop-other.invariant other h
      | inr e ↦ subst (λ z. is_done_at (outcomes (log_of c.args.rows.now) z) (stage_needed c.args.file c.args.stage z) ≡ true) e
          (subst (λ k. is_done_at (outcomes (log_of c.args.rows.now) (get_or c.args.others.now c.loop-other.other-index 0)) k ≡ true) c.needed.ensures (sym c.is_done.ensures ∙ c.if-not-is_done.false))
    ]

pub returns : goal.returns
returns g c = (λ _ other there. c.loop-other.invariant other (Contains-taken _ c.loop-other.other-index other (omega arith) there), λ _. refl)
