-- Lists and boxes cross threads, and are shared by them, where what they hold does.
use denote.RattleType.{RattleType}
use denote.Param.Send.{IsSend, IsSync, view_send, view_sync}
use denote.Param.SendFields.{declared_send, declared_sync}
use Rattle.std.proofs.Crossing as std
use Rattle.tree_lists.specs.contracts.boxed.Boxed as Boxed
use Rattle.tree_lists.specs.contracts.boxed.Boxed.TheInside as InBoxed
use Rattle.tree_lists.specs.contracts.items.Items as Items
use Rattle.tree_lists.specs.contracts.items.Items.TheInside as InItems

module _ (T : RattleType) where
  pub items_send : IsSend T → IsSend (Items.the_row T)
  items_send s = view_send _ _ _ _ _ (declared_send (InItems.the_type T) (std.Vec-send T s, tt))

  pub items_sync : IsSync T → IsSync (Items.the_row T)
  items_sync s = view_sync _ _ _ _ _ (declared_sync (InItems.the_type T) (std.Vec-sync T s, tt))

  pub boxed_send : IsSend T → IsSend (Boxed.the_row T)
  boxed_send s = view_send _ _ _ _ _ (declared_send (InBoxed.the_type T) (std.Box-send T s, tt))

  pub boxed_sync : IsSync T → IsSync (Boxed.the_row T)
  boxed_sync s = view_sync _ _ _ _ _ (declared_sync (InBoxed.the_type T) (std.Box-sync T s, tt))

pub ruleset lists = (items_send, items_sync, boxed_send, boxed_sync)
