use Rattle.std.proofs.Common.{◌<◌, ◌≤◌, ◌+◌, ◌^◌, ◌++◌, ◌∙◌, ℕ, All, ap, sym, subst, refl, List, take, drop, length}
use Rattle.variant_values.specs.declared.values.Value.{Value}
use Rattle.variant_values.specs.Places.{place_of, in_values}
use Rattle.variant_values.specs.Heaps.{cell_at, items_of}
use Rattle.ref_objects.specs.Slots.{cells_of, count_at, IsRecounted, none_more}
use Rattle.ref_objects.proofs.Splicing.{put_within, before_within, put_room, before_held, put_light, replaced_now, same_length, traded, traded_held}
use Rattle.ref_objects.proofs.arrays.replace_items.Goals as goal

pub raise_values-requires-clause-within : goal.raise_values-requires-clause-within
raise_values-requires-clause-within c =
    let P : List Value → Type 0 = λ q. All (λ (v : Value). place_of v < length c.take_items-values.new.slots.items) q in
    subst P (sym c.as_slice.ensures.value) (put_within c.args.slots.now.items c.args.x c.args.total c.args.at (length c.args.put.items) c.args.put.items c.requires.kept c.requires.within c.requires.array c.requires.items c.take_items-values.new.slots.items c.take_items-values.ensures.put c.requires.put)

pub raise_values-requires-clause-room : goal.raise_values-requires-clause-room
raise_values-requires-clause-room c = λ y.
    let P : List Value → Type 0 = λ q. count_at c.take_items-values.new.slots.items y + in_values y q < 2 ^ 128 in
    subst P (sym c.as_slice.ensures.value) (put_room c.args.slots.now.items c.args.x c.args.total c.args.at (length c.args.put.items) c.args.put.items c.requires.kept c.requires.within c.requires.array c.requires.items c.take_items-values.new.slots.items c.take_items-values.ensures.put c.requires.put (put_light c.args.slots.now.items c.args.x c.args.total c.args.at (length c.args.put.items) c.args.put.items c.requires.kept c.requires.within c.requires.array c.requires.items c.requires.light) y)

pub lower_values-requires-clause-within : goal.lower_values-requires-clause-within
lower_values-requires-clause-within c =
    let P : List Value → Type 0 = λ q. All (λ (v : Value). place_of v < length c.raise_values.new.slots.items) q in
    let Q : ℕ → Type 0 = λ n. All (λ (v : Value). place_of v < n) (take (length c.args.put.items) (drop c.args.at (items_of (cell_at (cells_of c.args.slots.now.items) c.args.x)))) in
    subst P (sym (c.as_slice-2.ensures.value ∙ c.exchange-before.ensures.out ∙ ap (λ (vs : List Value). take (length c.args.put.items) (drop c.args.at vs)) c.take_items-values.ensures.items)) (subst Q (sym (same_length c.take_items-values.new.slots.items c.raise_values.new.slots.items c.raise_values.ensures.cells)) (before_within c.args.slots.now.items c.args.x c.args.total c.args.at (length c.args.put.items) c.args.put.items c.requires.kept c.requires.within c.requires.array c.requires.items c.take_items-values.new.slots.items c.take_items-values.ensures.put c.requires.put))

pub lower_values-requires-clause-held : goal.lower_values-requires-clause-held
lower_values-requires-clause-held c =
    traded_held c.take_items-values.new.slots.items c.raise_values.new.slots.items _ (λ y. in_values y c.as_slice-2.result.now) c.raise_values.ensures (λ y l. subst (λ (q : List Value). in_values y q ≤ count_at c.take_items-values.new.slots.items y) (sym (c.as_slice-2.ensures.value ∙ c.exchange-before.ensures.out ∙ ap (λ (vs : List Value). take (length c.args.put.items) (drop c.args.at vs)) c.take_items-values.ensures.items)) (before_held c.args.slots.now.items c.args.x c.args.total c.args.at (length c.args.put.items) c.args.put.items c.requires.kept c.requires.within c.requires.array c.requires.items c.take_items-values.new.slots.items c.take_items-values.ensures.put c.requires.put y l))

pub returns : goal.returns
returns c =
    let P : List Value → Type 0 = λ q. IsRecounted c.take_items-values.new.slots.items c.lower_values.new.slots.items (λ y. in_values y q) none_more (λ y. in_values y c.as_slice-2.result.now) in
    let Q : List Value → Type 0 = λ q. IsRecounted c.take_items-values.new.slots.items c.lower_values.new.slots.items (λ y. in_values y c.args.put.items) none_more (λ y. in_values y q) in
    replaced_now c.args.slots.now.items c.args.x c.args.total c.args.at (length c.args.put.items) c.args.put.items c.requires.kept c.requires.within c.requires.array c.requires.items c.take_items-values.new.slots.items c.take_items-values.ensures.put c.requires.put c.lower_values.new.slots.items c.put_items.new.slots.items c.exchange-before.new.self _ (subst Q (c.as_slice-2.ensures.value ∙ c.exchange-before.ensures.out ∙ ap (λ (vs : List Value). take (length c.args.put.items) (drop c.args.at vs)) c.take_items-values.ensures.items) (subst P c.as_slice.ensures.value (traded c.take_items-values.new.slots.items c.raise_values.new.slots.items c.lower_values.new.slots.items _ _ c.raise_values.ensures c.lower_values.ensures))) (c.exchange-before.ensures.new ∙ ap (λ (vs : List Value). take c.args.at vs ++ c.args.put.items ++ drop (c.args.at + length c.args.put.items) vs) c.take_items-values.ensures.items) c.put_items.ensures refl c.requires.light
