use Rattle.std.proofs.Common.{sym, ◌∙◌, ap, Some, List, []}
use Rattle.variant_values.specs.declared.values.Value.{Value}
use Rattle.variant_values.specs.declared.cells.Cell.{Cell}
use Rattle.variant_values.specs.declared.cells.Cell.TheVariants.{Array as ArrayCell}
use Rattle.variant_values.specs.Heaps.{items_put}
use Rattle.ref_objects.proofs.Putting.{put_done}
use Rattle.ref_objects.proofs.arrays.take_items.Goals as goal

pub returns-clause-put : goal.returns-clause-put
returns-clause-put c = put_done c.args.slots.now.items c.take_cell.new.slots.items c.put_cell.new.slots.items c.args.x _ _ c.requires.within c.in-Some-Array.ensures.slots c.put_cell.ensures (ap (items_put []) (sym c.in-Some-Array.ensures.cell ∙ ap (λ (d : Cell). Some d) c.in-Some-Array.field-0-is) ∙ ap (λ (vs : List Value). Some (ArrayCell vs c.in-Some-Array.of)) (sym c.new.ensures))
