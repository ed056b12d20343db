use Rattle.ref_objects.specs.Views.{HeapView}
use Rattle.std.proofs.Common.{◌≡◌, ap, subst, sym, arith, List, ◌+◌, ◌<◌, true}
use Rattle.std.specs.Prelude.{OnOk}
use Rattle.variant_values.specs.Heaps.{cell_at, is_object}
use Rattle.variant_values.specs.declared.cells.Connection.{Connection}
use Rattle.variant_values.specs.Links.{connections_in, connections_of, connected, is_connection}
use Rattle.ref_objects.specs.declared.slots.Slot.{Slot}
use Rattle.ref_objects.specs.Slots.{cells_of, heap_of}
use Rattle.ref_objects.proofs.Linking.{added_kept, added_is, object_lives}
use Rattle.ref_objects.proofs.Whole.{whole_added}
use Rattle.std.specs.List.{list_any}
use Rattle.std.proofs.Common.{false}
use Rattle.ref_objects.proofs.heap.Heap.add_connection.Goals as goal

pub invariant_of-self : goal.invariant_of-self
invariant_of-self c =
    let P : Connection → Type 0 = λ r. is_object (cell_at c.args.self.now.state.cells r.target.0) ≡ true in
    let few : connections_in (cells_of c.self.inside.slots.items) < c.links_bound-links.result + 1 = omega (arith, c.links_bound-links.ensures.bound, ap (λ (s : List Slot). connections_in (cells_of s)) c.as_slice.ensures.value) in
    let steady = added_kept c.self.inside.slots.items c.add_link.new.slots.items c.args.from.0 c.self.inside.total c.self.inside.links c.self.inside.queued.items c.args.self.now.state (ap (λ (v : HeapView). v.state) c.self.view_is) c.requires.from c.self.invariant.steady c.in_ok-row.row (subst P (sym c.in_ok-row.ensures.ok) c.requires.to) (c.links_bound-links.result + 1) few (omega (arith, c.links_bound-links.ensures.few, c.if-links-eq-MOST_LINKS.false)) c.add_link.result c.add_link.ensures.ok c.add_link.ensures.err in
    let row : Connection = c.in_ok-row.row in
    let F : Connection → Type 0 = λ r. list_any (is_connection r.signal r.target r.method) (connections_of (cell_at c.args.self.now.state.cells c.args.from.0)) ≡ false in
    let L : Connection → Type 0 = λ r. is_object (cell_at c.args.self.now.state.cells r.target.0) ≡ true in
    whole_added c.self.inside.slots.items c.self.inside.queued.items c.self.inside.total c.args.self.now.state (ap (λ (v : HeapView). v.state) c.self.view_is) c.self.invariant c.add_link.new.slots.items c.self.inside.total steady c.args.from.0 row c.requires.from (object_lives (cell_at c.args.self.now.state.cells row.target.0) (subst L (sym c.in_ok-row.ensures.ok) c.requires.to)) (subst F (sym c.in_ok-row.ensures.ok) c.requires.fresh) c.add_link.result (added_is c.self.inside.slots.items c.add_link.new.slots.items c.args.from.0 c.self.inside.total c.self.inside.links c.self.inside.queued.items c.args.self.now.state (ap (λ (v : HeapView). v.state) c.self.view_is) c.requires.from c.self.invariant.steady row (subst P (sym c.in_ok-row.ensures.ok) c.requires.to) c.add_link.result c.add_link.ensures.ok) c.add_link.ensures.err

pub returns-clause-ok : goal.returns-clause-ok
returns-clause-ok c =
    let P : Connection → Type 0 = λ r. is_object (cell_at c.args.self.now.state.cells r.target.0) ≡ true in
    let Q : Connection → Type 0 = λ r. OnOk c.add_link.result (heap_of c.add_link.new.slots.items c.self.inside.queued.items ≡ connected c.args.self.now.state c.args.from.0 r) in
    subst Q c.in_ok-row.ensures.ok (added_is c.self.inside.slots.items c.add_link.new.slots.items c.args.from.0 c.self.inside.total c.self.inside.links c.self.inside.queued.items c.args.self.now.state (ap (λ (v : HeapView). v.state) c.self.view_is) c.requires.from c.self.invariant.steady c.in_ok-row.row (subst P (sym c.in_ok-row.ensures.ok) c.requires.to) c.add_link.result c.add_link.ensures.ok)
