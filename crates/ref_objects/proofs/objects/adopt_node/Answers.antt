use Rattle.std.proofs.Common.{sym, ◌∙◌, ap, Some}
use Rattle.variant_values.specs.declared.cells.Cell.{Cell}
use Rattle.variant_values.specs.declared.cells.Cell.TheVariants.{Object as ObjectCell}
use Rattle.variant_values.specs.Trees.{node_put, adopted}
use Rattle.variant_values.specs.declared.cells.ObjectCell.{ObjectCell as AnObject}
use Rattle.ref_objects.proofs.Putting.{put_done, put_back}
use Rattle.ref_objects.proofs.objects.adopt_node.Goals as goal

pub returns-in-Ok-clause-ok : goal.returns-in-Ok-clause-ok
returns-in-Ok-clause-ok c = put_done c.args.slots.now.items c.take_cell.new.slots.items c.put_cell.new.slots.items c.args.x _ _ c.requires.within c.in-Some-Object.ensures.slots c.put_cell.ensures (ap (node_put (adopted c.args.child)) (sym c.in-Some-Object.ensures.cell ∙ ap (λ (d : Cell). Some d) c.in-Some-Object.field-0-is) ∙ ap (λ (o : AnObject). Some (ObjectCell o)) (sym c.in-Ok.ensures.ok))

pub returns-in-Err-clause-err : goal.returns-in-Err-clause-err
returns-in-Err-clause-err c = put_back c.args.slots.now.items c.take_cell.new.slots.items c.put_cell-in-Err.new.slots.items c.args.x _ c.requires.within c.in-Some-Object.ensures.slots c.put_cell-in-Err.ensures ((sym c.in-Some-Object.ensures.cell ∙ ap (λ (d : Cell). Some d) c.in-Some-Object.field-0-is) ∙ ap (λ (o : AnObject). Some (ObjectCell o)) (sym c.in-Err.ensures.err))
