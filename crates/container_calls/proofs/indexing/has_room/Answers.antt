use Rattle.std.proofs.Common.{◌∙◌, ◌+◌, ap, sym, nat_le, length}
use Rattle.variant_values.specs.Keys.{with_entry}
use Rattle.std.specs.Prelude.{option_copied}
use Rattle.container_calls.proofs.Entries.{length_present, length_absent, below}
use Rattle.container_calls.proofs.indexing.has_room.Goals as goal

pub returns-in-Some : goal.returns-in-Some
returns-in-Some c = λ v. ap (λ n. nat_le n 1048576) (c.len.ensures ∙ sym (length_present c.args.entries.now c.args.key.now v c.in-Some.field-0.now (sym c.get.ensures ∙ ap (λ o. option_copied o) c.in-Some.is)))

pub returns-in-None : goal.returns-in-None
returns-in-None c = λ v. below c.len-in-None.result (length (with_entry c.args.entries.now c.args.key.now v)) 1048576 (length_absent c.args.entries.now c.args.key.now v (sym c.get.ensures ∙ ap (λ o. option_copied o) c.in-None.is) ∙ ap (λ n. n + 1) (sym c.len-in-None.ensures))
