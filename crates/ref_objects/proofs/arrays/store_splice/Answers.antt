use Rattle.std.proofs.Common.{◌≡◌, ◌<◌, ◌≤◌, ◌+◌, ◌-◌, ◌^◌, ◌++◌, ◌∙◌, ℕ, true, ap, subst, arith, List, take, drop, length, set, Some}
use Rattle.std.specs.List.{slice_range}
use Rattle.variant_values.specs.declared.values.Value.{Value}
use Rattle.variant_values.specs.Places.{in_values, room_left, weight}
use Rattle.variant_values.specs.Heaps.{cell_at, items_of, items_put, spliced}
use Rattle.variant_values.proofs.Rooms.{room_has}
use Rattle.ref_objects.specs.declared.slots.Slot.{Slot}
use Rattle.ref_objects.specs.Slots.{cells_of, lives, count_at, IsRecounted, none_more}
use Rattle.ref_objects.proofs.Splicing.{trade_within, trade_room, trade_held, traded_now, back_now, put_light}
use Rattle.ref_objects.proofs.arrays.store_splice.Goals as goal

abbrev weight_then : List Slot → ℕ → ℕ → ℕ → List Value → ℕ
weight_then slots x at out put = weight (set (cells_of slots) x (items_put (spliced (items_of (cell_at (cells_of slots) x)) at out put) (cell_at (cells_of slots) x)))

room_is : (x at out room : ℕ) (s t : List Slot) (p q : List Value) → Some room ≡ room_left 67108864 (weight_then s x at out p) → s ≡ t → p ≡ q → Some room ≡ room_left 67108864 (weight_then t x at out q)
room_is x at out room s t p q h e f = h ∙ ap (λ z. room_left 67108864 (weight_then z x at out p)) e ∙ ap (λ z. room_left 67108864 (weight_then t x at out z)) f

pub trade-requires-clause-within : goal.trade-requires-clause-within
trade-requires-clause-within c = trade_within c.args.slots.now.items c.args.x c.args.total c.args.at c.args.out c.args.put.items c.requires.kept c.requires.within c.requires.array c.requires.items c.take_items-values.new.slots.items c.take_items-values.ensures.put c.requires.put c.put_in.new.self (c.in-Ok.ensures.ok ∙ ap (λ (vs : List Value). take c.args.at vs ++ c.args.put.items ++ drop c.args.at vs) c.take_items-values.ensures.items)

pub trade-requires-clause-room : goal.trade-requires-clause-room
trade-requires-clause-room c =
    let has = room_has 67108864 (weight_then c.args.slots.now.items c.args.x c.args.at c.args.out c.args.put.items) c.in-Some.room (room_is c.args.x c.args.at c.args.out c.in-Some.room c.as_slice.result.now c.args.slots.now.items c.as_slice-2.result.now c.args.put.items c.in-Some.ensures c.as_slice.ensures.value c.as_slice-2.ensures.value) in
    let P : ℕ → Type 0 = λ n. (y : ℕ) → count_at c.take_items-values.new.slots.items y + in_values y (slice_range c.put_in.new.self c.args.at (c.args.at + n)) < 2 ^ 128 in
    subst P (omega (arith, c.len-count.ensures, c.args.put.ok)) (trade_room c.args.slots.now.items c.args.x c.args.total c.args.at c.args.out c.args.put.items c.requires.kept c.requires.within c.requires.array c.requires.items c.take_items-values.new.slots.items c.take_items-values.ensures.put c.requires.put c.put_in.new.self (c.in-Ok.ensures.ok ∙ ap (λ (vs : List Value). take c.args.at vs ++ c.args.put.items ++ drop c.args.at vs) c.take_items-values.ensures.items) (put_light c.args.slots.now.items c.args.x c.args.total c.args.at c.args.out c.args.put.items c.requires.kept c.requires.within c.requires.array c.requires.items has.0))

pub trade-requires-clause-held : goal.trade-requires-clause-held
trade-requires-clause-held c =
    let P : ℕ → Type 0 = λ n. (y : ℕ) → lives c.take_items-values.new.slots.items y ≡ true → in_values y (slice_range c.put_in.new.self (c.args.at + n) (c.args.at + n + c.args.out)) ≤ count_at c.take_items-values.new.slots.items y in
    subst P (omega (arith, c.len-count.ensures, c.args.put.ok)) (trade_held c.args.slots.now.items c.args.x c.args.total c.args.at c.args.out c.args.put.items c.requires.kept c.requires.within c.requires.array c.requires.items c.take_items-values.new.slots.items c.take_items-values.ensures.put c.requires.put c.put_in.new.self (c.in-Ok.ensures.ok ∙ ap (λ (vs : List Value). take c.args.at vs ++ c.args.put.items ++ drop c.args.at vs) c.take_items-values.ensures.items))

pub returns-in-Ok-clause-ok : goal.returns-in-Ok-clause-ok
returns-in-Ok-clause-ok c =
    let has = room_has 67108864 (weight_then c.args.slots.now.items c.args.x c.args.at c.args.out c.args.put.items) c.in-Some.room (room_is c.args.x c.args.at c.args.out c.in-Some.room c.as_slice.result.now c.args.slots.now.items c.as_slice-2.result.now c.args.put.items c.in-Some.ensures c.as_slice.ensures.value c.as_slice-2.ensures.value) in
    let n : c.len-count.result ≡ length c.args.put.items = omega (arith, c.len-count.ensures, c.args.put.ok) in
    let P : ℕ → Type 0 = λ n. IsRecounted c.take_items-values.new.slots.items c.trade.new.slots.items (λ y. in_values y (slice_range c.put_in.new.self c.args.at (c.args.at + n))) none_more (λ y. in_values y (slice_range c.put_in.new.self (c.args.at + n) (c.args.at + n + c.args.out))) in
    let Q : ℕ → Type 0 = λ n. c.trade.new.values ≡ take (c.args.at + n) c.put_in.new.self ++ drop (c.args.at + n + c.args.out) c.put_in.new.self in
    traded_now c.args.slots.now.items c.args.x c.args.total c.args.at c.args.out c.args.put.items c.requires.kept c.requires.within c.requires.array c.requires.items c.take_items-values.new.slots.items c.take_items-values.ensures.put c.requires.put c.put_in.new.self (c.in-Ok.ensures.ok ∙ ap (λ (vs : List Value). take c.args.at vs ++ c.args.put.items ++ drop c.args.at vs) c.take_items-values.ensures.items) c.trade.new.slots.items c.put_items.new.slots.items c.trade.new.values (67108864 - c.in-Some.room) (subst P n c.trade.ensures.counts) (subst Q n c.trade.ensures.values) c.put_items.ensures (omega (arith, has.0, has.1)) (omega arith)

pub returns-in-Err-clause-err : goal.returns-in-Err-clause-err
returns-in-Err-clause-err c = back_now c.args.slots.now.items c.args.x c.args.total c.args.at c.args.out c.args.put.items c.requires.kept c.requires.within c.requires.array c.requires.items c.take_items-values.new.slots.items c.take_items-values.ensures.put c.put_items-in-Err.new.slots.items _ (c.in-Err.ensures.err ∙ c.take_items-values.ensures.items) c.put_items-in-Err.ensures
