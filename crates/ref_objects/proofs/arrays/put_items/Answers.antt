use Rattle.std.proofs.Common.{sym, ◌∙◌, ap, Some}
use Rattle.variant_values.specs.declared.cells.Cell.{Cell}
use Rattle.variant_values.specs.Heaps.{items_put}
use Rattle.ref_objects.proofs.Putting.{put_done}
use Rattle.ref_objects.proofs.arrays.put_items.Goals as goal

pub returns : goal.returns
returns c = put_done c.args.slots.now.items c.take_cell.new.slots.items c.put_cell.new.slots.items c.args.x _ _ c.requires.within c.in-Some-Array.ensures.slots c.put_cell.ensures (ap (items_put c.args.values) (sym c.in-Some-Array.ensures.cell ∙ ap (λ (d : Cell). Some d) c.in-Some-Array.field-0-is))
