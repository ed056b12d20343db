use denote.Param.Send.{sendable}
use Rattle.gd_syntax.proofs.Crossing.{script_send, script_sync}
use Rattle.gd_syntax.proofs.threads.may_cross.Goals as goal

pub crosses-requires-2-send-T : goal.crosses-requires-2-send-T
crosses-requires-2-send-T c κs = search (script_send, sendable) depth 40

pub crosses-requires-2-sync-T : goal.crosses-requires-2-sync-T
crosses-requires-2-sync-T c κs = search (script_sync, sendable) depth 40
