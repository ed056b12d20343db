-- Threads may share a cache whose work they may share, and whose results and project may also cross.
use denote.RattleType.{RattleType}
use denote.Struct.Declared.{shape}
use denote.Param.Send.{IsSend, IsSync, recorded_sync, sendable, struct_sync}
use denote.Param.SendFields.{declared_send}
use Rattle.std.proofs.Crossing.{crosses}
use Rattle.stage_core.proofs.Crossing.{core_send as core-send}
use Rattle.stage_core.specs.declared.stage_work.StageWork.{Ghosts as WorkGhosts}
use Rattle.stage_core.specs.declared.work.StageOut.{Ghosts}
use Rattle.turn_lock.proofs.lock.Pass.TheSendSync as pass
use Rattle.turn_lock.proofs.lock.TurnLock.TheSendSync as lock
use Rattle.script_cache.specs.contracts.shared_core.SharedCore as core
use Rattle.script_cache.specs.contracts.cache.ScriptCache.{the_type, the_row}

module _ (W O P : RattleType) (w : WorkGhosts W.Denot O.Denot P.Denot) (g : Ghosts O.Denot P.Denot) where
  pub core_send : IsSend O → IsSync O → IsSend P → IsSync P → IsSend (core.the_row O P g)
  core_send so yo sp yp = declared_send (core.the_type O P g) (core-send O P g so yo, tt)

  pub cache_sync : IsSync W → IsSend O → IsSync O → IsSend P → IsSync P → IsSync (the_row W O P w g)
  cache_sync yw so yo sp yp =
      let c = core_send so yo sp yp in
      recorded_sync _ _ _ ((the_type W O P w g).to_one) (struct_sync (shape (the_type W O P w g)) (search crosses, (search (crosses, lock.the_field_sync, c), tt)))

-- what `search` takes, at depth 40, where a thread gets a cache
pub ruleset shared_cache = (cache_sync, core_send, pass.the_send, sendable, crosses)
