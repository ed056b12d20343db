use Rattle.std.proofs.Common.{sym, ◌∙◌, ap, Some}
use Rattle.variant_values.specs.declared.cells.Cell.{Cell}
use Rattle.variant_values.specs.declared.cells.Cell.TheVariants.{Object as ObjectCell}
use Rattle.variant_values.specs.Trees.{node_put, named}
use Rattle.variant_values.specs.declared.cells.ObjectCell.{ObjectCell as AnObject}
use Rattle.ref_objects.proofs.Putting.{put_done}
use Rattle.ref_objects.proofs.objects.name_node.Goals as goal

pub returns : goal.returns
returns c = put_done c.args.slots.now.items c.take_cell.new.slots.items c.put_cell.new.slots.items c.args.x _ _ c.requires.within c.in-Some-Object.ensures.slots c.put_cell.ensures (ap (node_put (named c.args.name)) (sym c.in-Some-Object.ensures.cell ∙ ap (λ (d : Cell). Some d) c.in-Some-Object.field-0-is) ∙ ap (λ (o : AnObject). Some (ObjectCell o)) (sym c.set_name.ensures))
