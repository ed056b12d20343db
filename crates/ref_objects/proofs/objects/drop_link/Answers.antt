use Rattle.std.proofs.Common.{sym, ◌∙◌, ap, Option, Some, List, filter, not}
use Rattle.variant_values.specs.declared.cells.Cell.{Cell}
use Rattle.variant_values.specs.declared.cells.Cell.TheVariants.{Object as ObjectCell}
use Rattle.variant_values.specs.Links.{connections_of, connections_put, is_connection}
use Rattle.variant_values.specs.declared.cells.Connection.{Connection}
use Rattle.ref_objects.proofs.Putting.{put_done}
use Rattle.ref_objects.proofs.objects.drop_link.Goals as goal

pub returns : goal.returns
returns c = put_done c.args.slots.now.items c.take_cell.new.slots.items c.put_cell.new.slots.items c.args.x _ _ c.requires.within c.in-Some-Object.ensures.slots c.put_cell.ensures (ap (λ (s : Option Cell). connections_put (filter (λ r. not (is_connection c.args.signal.now c.args.to c.args.method.now r)) (connections_of s)) s) (sym c.in-Some-Object.ensures.cell ∙ ap (λ (d : Cell). Some d) c.in-Some-Object.field-0-is) ∙ ap (λ (rows : List Connection). Some (ObjectCell (record c.in-Some-Object.o { connections = rows }))) (sym c.remove.ensures))
