-- Rows cross threads, and are shared by them.
use denote.Param.Send.{IsSend, IsSync, sendable, view_send, view_sync}
use denote.Param.SendFields.{declared_send, declared_sync}
use Rattle.std.proofs.Crossing as std
use Rattle.index_lists.specs.contracts.chains.Link as Link
use Rattle.index_lists.specs.contracts.chains.Ends as Ends
use Rattle.index_lists.specs.contracts.chains.Chains as Chains
use Rattle.index_lists.specs.contracts.chains.Chains.TheInside as ChainsInside
use Rattle.index_lists.specs.contracts.Rows as Rows
use Rattle.index_lists.specs.contracts.Rows.TheInside as Inside

link_send : IsSend Link.the_row
link_send = search (sendable, std.crosses) depth 40

link_sync : IsSync Link.the_row
link_sync = search (sendable, std.crosses) depth 40

ends_send : IsSend Ends.the_row
ends_send = search (sendable, std.crosses) depth 40

ends_sync : IsSync Ends.the_row
ends_sync = search (sendable, std.crosses) depth 40

chains_send : IsSend Chains.the_row
chains_send = view_send _ _ _ _ _ (declared_send ChainsInside.the_type (search sendable, (search sendable, (std.Vec-send _ link_send, (std.Vec-send _ ends_send, tt)))))

chains_sync : IsSync Chains.the_row
chains_sync = view_sync _ _ _ _ _ (declared_sync ChainsInside.the_type (search sendable, (search sendable, (std.Vec-sync _ link_sync, (std.Vec-sync _ ends_sync, tt)))))

pub rows_send : IsSend Rows.the_row
rows_send = view_send _ _ _ _ _ (declared_send Inside.the_type (chains_send, (chains_send, (search sendable, tt))))

pub rows_sync : IsSync Rows.the_row
rows_sync = view_sync _ _ _ _ _ (declared_sync Inside.the_type (chains_sync, (chains_sync, (search sendable, tt))))
