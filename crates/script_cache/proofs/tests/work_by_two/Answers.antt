use denote.Param.Send.{IsSend, IsSync, sendable}
use Rattle.std.proofs.Crossing.{crosses, sync}
use Rattle.stage_core.specs.declared.stage_work.StageWork.{Ghosts as WorkGhosts}
use Rattle.stage_core.specs.declared.work.StageOut.{Ghosts}
use Rattle.turn_lock.proofs.lock.Pass.TheSendSync as pass
use Rattle.script_cache.specs.contracts.cache.ScriptCache as cache
use Rattle.script_cache.specs.contracts.sample.Sample as project
use Rattle.script_cache.specs.contracts.sample.SampleOut as out
use Rattle.script_cache.specs.contracts.sample.SampleWork as work
use Rattle.script_cache.specs.contracts.shared_core.SharedCore as core
use Rattle.script_cache.specs.contracts.tests.Paths as paths
use Rattle.script_cache.proofs.Sharing.{cache_sync, core_send}
use Rattle.script_cache.proofs.tests.work_by_two.Goals as goal

work_sync : IsSync work.the_row
work_sync = search (sendable, crosses) depth 40

out_send : IsSend out.the_row
out_send = search (sendable, crosses) depth 40

out_sync : IsSync out.the_row
out_sync = search (sendable, crosses) depth 40

project_send : IsSend project.the_row
project_send = search (sendable, crosses) depth 40

project_sync : IsSync project.the_row
project_sync = search (sendable, crosses) depth 40

paths_sync : IsSync paths.the_row
paths_sync = search (sendable, crosses) depth 40

module _ (w : WorkGhosts (work.the_row).Denot (out.the_row).Denot (project.the_row).Denot) (g : Ghosts (out.the_row).Denot (project.the_row).Denot) where
  core_sent : IsSend (core.the_row out.the_row project.the_row g)
  core_sent = core_send work.the_row out.the_row project.the_row w g out_send out_sync project_send project_sync

  cache_shared : IsSync (cache.the_row work.the_row out.the_row project.the_row w g)
  cache_shared = cache_sync work.the_row out.the_row project.the_row w g work_sync out_send out_sync project_send project_sync

pub join-one-requires-send-F : goal.join-one-requires-send-F
join-one-requires-send-F g c κs within = search (cache_shared, core_sent, paths_sync, sync, pass.the_send, sendable) depth 40

pub join-one-requires-send-A : goal.join-one-requires-send-A
join-one-requires-send-A g c κs within = search (core_sent, pass.the_send, sendable, crosses) depth 40
