use Rattle.std.proofs.Common.{◌∙◌, ap, is_some}
use Rattle.deep_copies.specs.declared.rooms.Measure.TheVariants.{Weight}
use Rattle.deep_copies.proofs.Weights.{takes_is}
use Rattle.deep_copies.proofs.rooms.has_room.Goals as goal

pub returns : goal.returns
returns c = c.is_some.ensures ∙ ap is_some c.room_after.ensures ∙ takes_is Weight 64 c.args.heap.now.state c.args.v.now c.room.result 67108864 c.is_sound.ensures c.room.ensures.room c.requires
