use Rattle.std.proofs.Common.{◌≡◌, ◌∙◌, ap, arith, List, set}
use Rattle.variant_values.specs.Keys.{with_entry}
use Rattle.variant_values.specs.Places.{weight}
use Rattle.variant_values.specs.Heaps.{cell_at, entries_of, entries_put}
use Rattle.ref_objects.specs.declared.slots.Slot.{Slot}
use Rattle.ref_objects.specs.Slots.{cells_of}
use Rattle.ref_objects.proofs.Entering.{put_room, put_before, entered_now}
use Rattle.ref_objects.proofs.dicts.store_entry.Goals as goal

pub recount-requires-clause-room : goal.recount-requires-clause-room
recount-requires-clause-room c = put_room c.args.slots.now.items c.args.x c.args.total c.requires.kept c.requires.within c.requires.dict c.args.key c.args.to c.put_entry.new.slots.items c.in_ok-before.ensures.ok

pub recount-requires-clause-before : goal.recount-requires-clause-before
recount-requires-clause-before c = put_before c.args.slots.now.items c.args.x c.args.total c.requires.kept c.requires.within c.requires.dict c.args.key c.args.to c.put_entry.new.slots.items c.in_ok-before.ensures.ok c.in_ok-before.before c.in_ok-before.ensures.before

pub returns-clause-ok : goal.returns-clause-ok
returns-clause-ok c =
    let after : c.weight_with-after.result ≡ weight (set (cells_of c.args.slots.now.items) c.args.x (entries_put (with_entry (entries_of (cell_at (cells_of c.args.slots.now.items) c.args.x)) c.args.key c.args.to) (cell_at (cells_of c.args.slots.now.items) c.args.x))) = c.weight_with-after.ensures ∙ ap (λ (s : List Slot). weight (set (cells_of s) c.args.x (entries_put (with_entry (entries_of (cell_at (cells_of s) c.args.x)) c.args.key c.args.to) (cell_at (cells_of s) c.args.x)))) c.as_slice.ensures.value in
    entered_now c.args.slots.now.items c.args.x c.args.total c.requires.kept c.requires.within c.requires.dict c.args.key c.args.to c.put_entry.new.slots.items c.recount.new.slots.items c.weight_with-after.result c.in_ok-before.ensures.ok c.in_ok-before.before c.in_ok-before.ensures.before c.key_place-key_at.result c.place_of-value_at.result c.key_place-key_at.ensures c.place_of-value_at.ensures c.recount.ensures c.requires.key c.requires.to after (omega arith)
