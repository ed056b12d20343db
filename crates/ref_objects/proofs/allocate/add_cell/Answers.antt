use Rattle.std.proofs.Common.{◌≡◌, ◌+◌, ◌-◌, ◌<◌, ◌^◌, ℕ, List, refl, subst, sym, arith, set, Some}
use Rattle.variant_values.specs.Places.{in_cell, cell_weight}
use Rattle.variant_values.proofs.Rooms.{room_has}
use Rattle.ref_objects.specs.declared.slots.Slot.{Slot}
use Rattle.ref_objects.specs.Slots.{count_at, slot_at, IsRaised, IsGrown}
use Rattle.ref_objects.proofs.Growing.{room_for, grown}
use Rattle.ref_objects.proofs.allocate.add_cell.Goals as goal

pub raise_cell-requires-clause-room : goal.raise_cell-requires-clause-room
raise_cell-requires-clause-room c =
    let has = room_has (67108864 - c.args.total) (cell_weight c.args.cell) c.in-Some.room c.in-Some.ensures in
    let P : List Slot → Type 0 = λ b. (y : ℕ) → count_at b y + in_cell y c.args.cell < 2 ^ 128 in
    subst P (sym c.in_ok-add_slot.ensures.ok) (λ y. room_for c.args.slots.now.items c.args.total y c.args.cell c.requires.kept (omega (arith, has.0)))

pub returns-clause-ok : goal.returns-clause-ok
returns-clause-ok c =
    let has = room_has (67108864 - c.args.total) (cell_weight c.args.cell) c.in-Some.room c.in-Some.ensures in
    let P : List Slot → Type 0 = λ b. IsRaised b c.raise_cell.new.slots.items (λ y. in_cell y c.args.cell) in
    let Q : ℕ → Type 0 = λ x. c.put_cell.new.slots.items ≡ set c.raise_cell.new.slots.items x (record (slot_at c.raise_cell.new.slots.items x) { cell = Some c.args.cell }) in
    let R : ℕ → Type 0 = λ n. IsGrown c.args.slots.now.items c.put_cell.new.slots.items n c.args.cell in
    subst R (omega (arith, has.0, has.1, c.requires.kept.light)) (grown c.args.slots.now.items c.raise_cell.new.slots.items c.put_cell.new.slots.items c.args.total (cell_weight c.args.cell) c.args.cell c.requires.kept c.requires.known (subst P c.in_ok-add_slot.ensures.ok c.raise_cell.ensures) (subst Q (omega arith) c.put_cell.ensures) refl (omega (arith, has.0, c.requires.kept.light)))
