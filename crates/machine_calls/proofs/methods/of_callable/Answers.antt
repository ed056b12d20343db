use Rattle.std.proofs.Common.{◌≡◌, true, false, refl, ◌∙◌, ap, Ok, Some, rules}
use Rattle.std.specs.Prelude.{chars}
use Rattle.variant_values.specs.declared.values.Value.TheVariants as value
use Rattle.variant_values.specs.Heaps.{is_living}
use Rattle.native_calls.specs.Natives.{GoesOn}
use Rattle.machine_calls.proofs.Rows.{call_named_so, no_call}
use Rattle.machine_calls.proofs.methods.of_callable.Goals as goal

pub returns-then-not-lives-clause-given : goal.returns-then-not-lives-clause-given
returns-then-not-lives-clause-given c = λ has.
    let gone : is_living c.args.heap.now.state.cells c.args.of.0 ≡ false = search rules in
    (call_named_so has c.args.heap.now.state c.args.of c.args.method.now c.args.args.now c.args.name.now false c.in-call.is gone, refl)

pub returns-in_ok-clone-in-call-clause-given : goal.returns-in_ok-clone-in-call-clause-given
returns-in_ok-clone-in-call-clause-given c = λ has.
    let lives : is_living c.args.heap.now.state.cells c.args.of.0 ≡ true = search rules in
    let same : c.args.method.now ≡ c.in_ok-clone-in-call.field-0 = search rules in
    (call_named_so has c.args.heap.now.state c.args.of c.args.method.now c.args.args.now c.args.name.now true c.in-call.is lives ∙ ap (λ m. Some (Ok (GoesOn (value.Object c.args.of) (chars m) c.args.args.now))) same, refl)

pub returns-in_default-clause-given : goal.returns-in_default-clause-given
returns-in_default-clause-given c = λ has.
    (no_call has c.args.heap.now.state c.args.of c.args.method.now c.args.args.now c.args.name.now c.in_default.not-call c.requires.made, refl)
