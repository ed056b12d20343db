use Rattle.std.proofs.Common.{◌∙◌, inl, inr, sym, subst, arith}
use Rattle.std.proofs.lemmas.List.Elements.{Contains-get_or}
use Rattle.stage_core.specs.Rows.{log_of}
use Rattle.stage_core.specs.Machine.{IsReady}
use Rattle.stage_core.proofs.Reach.{Contains-take_more, Contains-taken}
use Rattle.stage_core.proofs.ready.ready_task.Goals as goal

pub ready_stage-requires-clause-file : goal.ready_stage-requires-clause-file
ready_stage-requires-clause-file g c =
    let k = c.requires.known _ (Contains-get_or c.args.known.now c.loop-file.file-index 0 c.loop-file-test.true) in
    (k.0, k.1)

pub loop-file-preserved : goal.loop-file-preserved
loop-file-preserved g c = record {
  none = λ file stage there ready. elim (Contains-take_more c.args.known.now c.loop-file.file-index file c.loop-file-test.true there) [
    | inl h ↦ c.loop-file.invariant.none file stage h ready
    | inr e ↦ c.in_default.ensures.none stage (subst (λ z. IsReady g.O.StageOut (log_of c.args.rows.now) c.args.in_progress.now z stage) (sym e) ready)
  ];
  capacity = c.ready_stage.ensures.capacity ∙ c.loop-file.invariant.capacity;
}

pub returns-clause-none : goal.returns-clause-none
returns-clause-none g c file stage there ready = c.loop-file.invariant.none file stage (Contains-taken _ c.loop-file.file-index file (omega arith) there) ready
