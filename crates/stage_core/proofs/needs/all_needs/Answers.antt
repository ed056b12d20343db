use Rattle.std.proofs.Common.{◌∷◌, [], refl, ◌∙◌}
use Rattle.std.proofs.lemmas.List.{take_more, map-append}
use Rattle.std.proofs.lemmas.List.Elements.{All-push}
use Rattle.stage_core.specs.Rows.{log_of}
use Rattle.stage_core.specs.Needs.{IsNeedOutcome}
use Rattle.stage_core.proofs.needs.all_needs.Goals as goal

pub loop-other-preserved : goal.loop-other-preserved
loop-other-preserved g c =
    let i = c.loop-other.other-index in
    record {
      of = rw (c.in_ok-push.ensures.items, take_more c.args.others.now i 0 c.loop-other-test.true) (map-append (λ n. n.file) c.loop-other.needs.items (c.in_ok-need.field-0 ∷ []) ∙ rw (c.loop-other.invariant.of, c.in_ok-need.ensures.of) refl);
      handed = rw c.in_ok-push.ensures.items (All-push (IsNeedOutcome (log_of c.args.rows.now) c.args.file c.args.stage) c.loop-other.needs.items c.in_ok-need.field-0 c.loop-other.invariant.handed c.in_ok-need.ensures.handed);
    }
