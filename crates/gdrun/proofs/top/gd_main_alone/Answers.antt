use Rattle.std.proofs.Common.{◌≡◌, ◌≢◌, ◌∙◌, ap, Err, inl, inr, refl}
use Rattle.host_io.specs.Pieces.{WroteFirst, FailedWrite}
use Rattle.gdrun.specs.declared.status.Status.TheVariants.{NoMemory}
use Rattle.gdrun.specs.declared.stop.Stop.TheVariants.{NoMemory as StopMemory, SinkFault as StopSink}
use Rattle.gdrun.specs.Outcome.{Outcome}
use Rattle.gdrun.specs.Run.{HasRun}
use Rattle.gdrun.proofs.Whole.{headline, usage_cause, folder_fault_cause, folder_limit_cause, no_sink_fault, ok_kept, completed, not_failed, run_rose, memory_kept, of_told}
use Rattle.gdrun.proofs.top.gd_main_alone.Goals as goal

pub returns-in-Ok-clause-headline : goal.returns-in-Ok-clause-headline
returns-in-Ok-clause-headline g c = headline _ _ _ _ _ _ _ _ c.in-Ok.ensures.run

pub returns-in-Ok-clause-usage : goal.returns-in-Ok-clause-usage
returns-in-Ok-clause-usage g c = usage_cause _ _ _ _ _ _ _ _ c.in-Ok.ensures.run

pub returns-in-Ok-clause-folder_fault : goal.returns-in-Ok-clause-folder_fault
returns-in-Ok-clause-folder_fault g c = folder_fault_cause _ _ _ _ _ _ _ _ c.in-Ok.ensures.run

pub returns-in-Ok-clause-folder_limit : goal.returns-in-Ok-clause-folder_limit
returns-in-Ok-clause-folder_limit g c = folder_limit_cause _ _ _ _ _ _ _ _ c.in-Ok.ensures.run

pub returns-in-Ok-clause-sink_fault : goal.returns-in-Ok-clause-sink_fault
returns-in-Ok-clause-sink_fault g c = λ is. absurd (no_sink_fault _ _ _ _ _ _ _ _ c.in-Ok.ensures.run is)

pub returns-in-Ok-clause-sink_kept : goal.returns-in-Ok-clause-sink_kept
returns-in-Ok-clause-sink_kept g c = λ other. ok_kept _ _ _ _ _ _ _ _ c.in-Ok.ensures.run

pub returns-in-Ok-clause-complete : goal.returns-in-Ok-clause-complete
returns-in-Ok-clause-complete g c = λ files told calls writes outcome means. inl (completed _ _ _ _ _ _ _ _ c.in-Ok.ensures.run files told calls outcome means)

pub returns-in-Ok-clause-told : goal.returns-in-Ok-clause-told
returns-in-Ok-clause-told g c =
    of_told _ _ _ _ _ (c.in-Ok.status ≢ NoMemory) (λ (o : Outcome). HasRun (g.S.Sink.state c.args.out.now) (g.S.Sink.state c.perform.new.out) o c.in-Ok.status) (headline _ _ _ _ _ _ _ _ c.in-Ok.ensures.run)

pub returns-in-Err-NoMemory-clause-told : goal.returns-in-Err-NoMemory-clause-told
returns-in-Err-NoMemory-clause-told g c =
    let is : c.perform.result ≡ Err StopMemory = c.in-Err-NoMemory.is ∙ ap Err c.in-Err-NoMemory.field-0-is in
    of_told _ _ _ _ _ _ (λ (o : Outcome). WroteFirst (g.S.Sink.state c.args.out.now) (g.S.Sink.state c.perform.new.out) o.pieces) (rw is at c.perform.ensures.run)

pub returns-in-Err-NoMemory-clause-complete : goal.returns-in-Err-NoMemory-clause-complete
returns-in-Err-NoMemory-clause-complete g c = λ files told calls writes outcome means. inr refl

pub returns-in-Err-NoMemory-clause-sink_kept : goal.returns-in-Err-NoMemory-clause-sink_kept
returns-in-Err-NoMemory-clause-sink_kept g c =
    let is : c.perform.result ≡ Err StopMemory = c.in-Err-NoMemory.is ∙ ap Err c.in-Err-NoMemory.field-0-is in
    λ other. memory_kept _ _ _ _ _ _ _ (rw is at c.perform.ensures.run)

pub returns-in-Err-SinkFault-clause-told : goal.returns-in-Err-SinkFault-clause-told
returns-in-Err-SinkFault-clause-told g c =
    let is : c.perform.result ≡ Err StopSink = c.in-Err-SinkFault.is ∙ ap Err c.in-Err-SinkFault.field-0-is in
    of_told _ _ _ _ _ _ (λ (o : Outcome). FailedWrite (g.S.Sink.state c.args.out.now) (g.S.Sink.state c.perform.new.out) o.pieces) (rw is at c.perform.ensures.run)

pub returns-in-Err-SinkFault-clause-complete : goal.returns-in-Err-SinkFault-clause-complete
returns-in-Err-SinkFault-clause-complete g c =
    let is : c.perform.result ≡ Err StopSink = c.in-Err-SinkFault.is ∙ ap Err c.in-Err-SinkFault.field-0-is in
    λ files told calls writes outcome means. absurd (not_failed _ _ _ _ _ _ _ (rw is at c.perform.ensures.run) writes)

pub returns-in-Err-SinkFault-clause-sink_fault : goal.returns-in-Err-SinkFault-clause-sink_fault
returns-in-Err-SinkFault-clause-sink_fault g c =
    let is : c.perform.result ≡ Err StopSink = c.in-Err-SinkFault.is ∙ ap Err c.in-Err-SinkFault.field-0-is in
    λ failed. run_rose _ _ _ _ _ _ _ (rw is at c.perform.ensures.run)
