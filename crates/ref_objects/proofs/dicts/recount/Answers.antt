use Rattle.std.proofs.Common.{◌≡◌, ◌<◌, ◌≤◌, true, ℕ, length, subst, sym, Option}
use Rattle.std.specs.Prelude.{IfSome}
use Rattle.variant_values.specs.declared.values.Value.{Value}
use Rattle.variant_values.specs.Places.{place_of}
use Rattle.ref_objects.specs.Slots.{lives, count_at, IsRecounted, key_more, value_at, value_less}
use Rattle.ref_objects.proofs.Entering.{recounted_some, recounted_none, still_held}
use Rattle.ref_objects.proofs.dicts.recount.Goals as goal

pub lower-requires-clause-held : goal.lower-requires-clause-held
lower-requires-clause-held c =
    let P : Option Value → Type 0 = λ o. IfSome o (λ v. (place_of v < length c.args.slots.now.items) × (lives c.args.slots.now.items (place_of v) ≡ true → 1 ≤ count_at c.args.slots.now.items (place_of v))) in
    let Q : ℕ → Type 0 = λ p. lives c.args.slots.now.items p ≡ true → 1 ≤ count_at c.args.slots.now.items p in
    still_held c.args.slots.now.items c.raise.new.slots.items c.args.value c.place_of.result c.raise.ensures (subst Q (sym c.place_of.ensures) (subst P c.in-Some.is c.requires.before).1)

pub returns-in-Some : goal.returns-in-Some
returns-in-Some c =
    let P : Option Value → Type 0 = λ o. IsRecounted c.args.slots.now.items c.lower.new.slots.items (key_more c.args.key o) (value_at c.args.value) (value_less o) in
    subst P (sym c.in-Some.is) (recounted_some c.args.slots.now.items c.raise.new.slots.items c.lower.new.slots.items c.args.key c.args.value c.place_of.result c.in-Some.old c.raise.ensures c.place_of.ensures c.lower.ensures)

pub returns-in-None : goal.returns-in-None
returns-in-None c =
    let P : Option Value → Type 0 = λ o. IsRecounted c.args.slots.now.items c.raise-in-None.new.slots.items (key_more c.args.key o) (value_at c.args.value) (value_less o) in
    subst P (sym c.in-None.is) (recounted_none c.args.slots.now.items c.raise.new.slots.items c.raise-in-None.new.slots.items c.args.key c.args.value c.raise.ensures c.raise-in-None.ensures)
