use Rattle.ref_objects.proofs.Freeing.{clear_held, cleared_lost, cleared_kept}
use Rattle.ref_objects.proofs.frees.take_object.Goals as goal

pub lower_cell-requires-clause-held : goal.lower_cell-requires-clause-held
lower_cell-requires-clause-held c = clear_held c.args.slots.now.items c.clear_slot.new.slots.items c.args.x c.args.total c.in-Some.cell c.requires.kept c.requires.within c.in-Some.ensures.slots c.in-Some.ensures.cell

pub returns-in-Some-clause-lost : goal.returns-in-Some-clause-lost
returns-in-Some-clause-lost c = cleared_lost c.args.slots.now.items c.clear_slot.new.slots.items c.args.x c.args.total c.in-Some.cell c.requires.kept c.requires.within c.in-Some.ensures.slots c.in-Some.ensures.cell c.lower_cell.new.slots.items c.requires.object c.lower_cell.ensures

pub returns-in-Some-clause-kept : goal.returns-in-Some-clause-kept
returns-in-Some-clause-kept c = rw c.cell_weight.ensures (cleared_kept c.args.slots.now.items c.clear_slot.new.slots.items c.args.x c.args.total c.in-Some.cell c.requires.kept c.requires.within c.in-Some.ensures.slots c.in-Some.ensures.cell c.lower_cell.new.slots.items c.requires.object c.lower_cell.ensures)
