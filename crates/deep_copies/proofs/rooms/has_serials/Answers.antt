use Rattle.std.proofs.Common.{◌∙◌, ◌^◌, ap, is_some}
use Rattle.deep_copies.specs.declared.rooms.Measure.TheVariants.{Cells}
use Rattle.deep_copies.proofs.Weights.{takes_is}
use Rattle.deep_copies.proofs.rooms.has_serials.Goals as goal

pub returns : goal.returns
returns c = c.is_some.ensures ∙ ap is_some c.room_after.ensures ∙ takes_is Cells 64 c.args.heap.now.state c.args.v.now c.serials_left.result (2 ^ 64) c.is_sound.ensures c.serials_left.ensures.left c.requires
