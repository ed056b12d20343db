use Rattle.std.proofs.Common.{◌-◌, ◌∙◌, ap, arith}
use Rattle.std.specs.List.{sum_by}
use Rattle.variant_values.specs.Places.{item_weight, room_left}
use Rattle.ref_objects.proofs.Splicing.{light_range, light_le, weight_spliced, room_shift}
use Rattle.ref_objects.proofs.arrays.splice_room.Goals as goal

pub items_weight-light-requires : goal.items_weight-light-requires
items_weight-light-requires c = omega (arith, light_range c.args.slots.now c.args.x c.args.total c.args.at c.args.out c.args.put.now c.requires.kept c.requires.within c.requires.array c.requires.items c.items_at-items.result.now c.items_at-items.ensures, light_le c.args.slots.now c.args.x c.args.total c.args.at c.args.out c.args.put.now c.requires.kept c.requires.within c.requires.array c.requires.items, c.requires.kept.light)

pub overflow_sub-total : goal.overflow_sub-total
overflow_sub-total c = omega (arith, c.items_weight-light.ensures, light_range c.args.slots.now c.args.x c.args.total c.args.at c.args.out c.args.put.now c.requires.kept c.requires.within c.requires.array c.requires.items c.items_at-items.result.now c.items_at-items.ensures, light_le c.args.slots.now c.args.x c.args.total c.args.at c.args.out c.args.put.now c.requires.kept c.requires.within c.requires.array c.requires.items)

pub returns : goal.returns
returns c =
    c.items_room.ensures
    ∙ room_shift 67108864 (c.args.total - c.items_weight-light.result) (sum_by item_weight c.args.put.now) (omega (arith, c.requires.kept.light))
    ∙ ap (room_left 67108864) (omega (arith, weight_spliced c.args.slots.now c.args.x c.args.total c.args.at c.args.out c.args.put.now c.requires.kept c.requires.within c.requires.array c.requires.items, c.items_weight-light.ensures, light_range c.args.slots.now c.args.x c.args.total c.args.at c.args.out c.args.put.now c.requires.kept c.requires.within c.requires.array c.requires.items c.items_at-items.result.now c.items_at-items.ensures))
