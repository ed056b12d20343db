use denote.Exit.{yes}
use denote.Param.{param}
use denote.Param.Send.{param_send, param_sync, arg_send, arg_sync}
use Rattle.stage_core.proofs.Crossing.{core_send, core_sync}
use Rattle.stage_core.proofs.thread_safety.cross_threads.Goals as goal

pub crosses-requires-send-T : goal.crosses-requires-send-T
crosses-requires-send-T g c κs within =
    param_send 0 _ (arg_send _ yes _ (core_send (param 0 g.row.O) (param 1 g.row.O-Project) g.O.StageOut c.type_bounds.send-O c.type_bounds.sync-O))

pub crosses-requires-sync-T : goal.crosses-requires-sync-T
crosses-requires-sync-T g c κs within =
    param_sync 0 _ (arg_sync _ yes _ (core_sync (param 0 g.row.O) (param 1 g.row.O-Project) g.O.StageOut c.type_bounds.send-O c.type_bounds.sync-O))
