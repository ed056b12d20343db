-- Cores cross threads, and are shared by them, where results may. A search runs into its limits at the many kinds of
-- faults, so the terms are written.
use denote.RattleType.{RattleType}
use denote.Param.Send.{IsSend, IsSync, sendable, view_send, view_sync}
use denote.Param.SendFields.{declared_send, declared_sync, variants_send, variants_sync}
use Rattle.std.proofs.Crossing as std
use Rattle.gd_syntax.proofs.Crossing.{fault_send, fault_sync}
use Rattle.stage_core.specs.contracts.work.Outcome as Outcome
use Rattle.stage_core.specs.contracts.log_rows.LogRow as LogRow
use Rattle.stage_core.specs.contracts.engine.Core as Core
use Rattle.stage_core.specs.contracts.engine.Core.TheInside as Inside
use Rattle.stage_core.specs.declared.work.StageOut.{Ghosts}

module _ (O : RattleType) (s : IsSend O) (y : IsSync O) where
  pub outcome_send : IsSend (Outcome.the_row O)
  outcome_send = variants_send (Outcome.enum O) ((std.Arc-send O s y, tt), ((fault_send, tt), (tt, tt)))

  pub outcome_sync : IsSync (Outcome.the_row O)
  outcome_sync = variants_sync (Outcome.enum O) ((std.Arc-sync O s y, tt), ((fault_sync, tt), (tt, tt)))

  pub row_send : IsSend (LogRow.the_row O)
  row_send = variants_send (LogRow.enum O) ((search sendable, tt), ((search sendable, (search sendable, tt)), ((search sendable, (search sendable, (outcome_send, tt))), tt)))

  pub row_sync : IsSync (LogRow.the_row O)
  row_sync = variants_sync (LogRow.enum O) ((search sendable, tt), ((search sendable, (search sendable, tt)), ((search sendable, (search sendable, (outcome_sync, tt))), tt)))

module _ (O P : RattleType) (g : Ghosts O.Denot P.Denot) (s : IsSend O) (y : IsSync O) where
  pub core_send : IsSend (Core.the_row O P g)
  core_send = view_send _ _ _ _ _ (declared_send (Inside.the_type O P g) (search (sendable, std.crosses), (search sendable, (std.Vec-send _ (row_send O s y), (std.Vec-send _ (search sendable), (std.Vec-send _ (search sendable), (std.Vec-send _ (search sendable), tt)))))))

  pub core_sync : IsSync (Core.the_row O P g)
  core_sync = view_sync _ _ _ _ _ (declared_sync (Inside.the_type O P g) (search (sendable, std.crosses), (search sendable, (std.Vec-sync _ (row_sync O s y), (std.Vec-sync _ (search sendable), (std.Vec-sync _ (search sendable), (std.Vec-sync _ (search sendable), tt)))))))
