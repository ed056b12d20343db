use denote.Exit.{yes}
use denote.Param.Send.{param_send, param_sync, arg_send, arg_sync}
use Rattle.index_lists.proofs.Crossing.{rows_send, rows_sync}
use Rattle.index_lists.proofs.thread_safety.cross_threads.Goals as goal

pub crosses-requires-send-T : goal.crosses-requires-send-T
crosses-requires-send-T g c = param_send 0 _ (arg_send _ yes _ rows_send)

pub crosses-requires-sync-T : goal.crosses-requires-sync-T
crosses-requires-sync-T g c = param_sync 0 _ (arg_sync _ yes _ rows_sync)
