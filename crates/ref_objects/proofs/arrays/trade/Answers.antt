use Rattle.std.proofs.Common.{◌≡◌, ◌+◌, ◌≤◌, ℕ, true, sym, subst, List}
use Rattle.std.specs.List.{slice_range}
use Rattle.variant_values.specs.declared.values.Value.{Value}
use Rattle.variant_values.specs.Places.{in_values}
use Rattle.ref_objects.specs.Slots.{lives, count_at, IsRaised, IsLowered}
use Rattle.ref_objects.proofs.Splicing.{traded, traded_held}
use Rattle.ref_objects.proofs.arrays.trade.Goals as goal

pub lower_values-requires-clause-held : goal.lower_values-requires-clause-held
lower_values-requires-clause-held c =
    let P : List Value → Type 0 = λ vs. (y : ℕ) → lives c.raise_values.new.slots.items y ≡ true → in_values y (slice_range vs (c.args.at + c.args.count) (c.args.at + c.args.count + c.args.out)) ≤ count_at c.raise_values.new.slots.items y in
    subst P (sym c.as_slice-2.ensures) (traded_held c.args.slots.now.items c.raise_values.new.slots.items _ (λ y. in_values y (slice_range c.args.values.now (c.args.at + c.args.count) (c.args.at + c.args.count + c.args.out))) c.raise_values.ensures c.requires.held)

pub returns-clause-counts : goal.returns-clause-counts
returns-clause-counts c =
    let P : List Value → Type 0 = λ vs. IsRaised c.args.slots.now.items c.raise_values.new.slots.items (λ y. in_values y (slice_range vs c.args.at (c.args.at + c.args.count))) in
    let Q : List Value → Type 0 = λ vs. IsLowered c.raise_values.new.slots.items c.lower_values.new.slots.items (λ y. in_values y (slice_range vs (c.args.at + c.args.count) (c.args.at + c.args.count + c.args.out))) in
    traded c.args.slots.now.items c.raise_values.new.slots.items c.lower_values.new.slots.items _ _ (subst P c.as_slice.ensures c.raise_values.ensures) (subst Q c.as_slice-2.ensures c.lower_values.ensures)
