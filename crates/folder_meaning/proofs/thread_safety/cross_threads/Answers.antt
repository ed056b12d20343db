use denote.Exit.{yes}
use denote.Param.Send.{param_send, param_sync, arg_send, arg_sync}
use Rattle.folder_meaning.proofs.Crossing.{facts_send, facts_sync}
use Rattle.folder_meaning.proofs.thread_safety.cross_threads.Goals as goal

-- src/thread_safety.rt:10:5
pub crosses-requires-send-T : goal.crosses-requires-send-T
crosses-requires-send-T c κs = param_send 0 _ (arg_send _ yes _ facts_send)

-- src/thread_safety.rt:10:5
pub crosses-requires-sync-T : goal.crosses-requires-sync-T
crosses-requires-sync-T c κs = param_sync 0 _ (arg_sync _ yes _ facts_sync)
