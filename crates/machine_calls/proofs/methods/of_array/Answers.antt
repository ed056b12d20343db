use Rattle.std.proofs.Common.{Some, sym, subst, refl, ◌∙◌, ap}
use Rattle.std.specs.Prelude.{option_map}
use Rattle.variant_values.specs.declared.values.Value.TheVariants as value
use Rattle.native_calls.specs.Table.{ArrayMethods, CallsArray, row_in}
use Rattle.machine_calls.specs.Answers.{HasAnswered}
use Rattle.machine_calls.proofs.Rows.{called, uncalled}
use Rattle.machine_calls.proofs.methods.of_array.Goals as goal

pub returns-in-Some-clause-given : goal.returns-in-Some-clause-given
returns-in-Some-clause-given c = λ has.
    subst (λ g. HasAnswered c.valued.result c.args.args.now c.args.heap.now.state c.array_call.new.heap.state g)
    (sym (called has c.args.heap.now.state (value.Array c.args.of) c.args.args.now (row_in ArrayMethods c.args.name.now) (CallsArray c.in-Some.method) (c.array_method.ensures ∙ ap (option_map (λ m. Some (CallsArray m))) c.in-Some.is)))
    (c.valued.ensures.given c.args.args.now c.args.heap.now.state c.array_call.new.heap.state _ c.array_call.ensures.given)

pub returns-in-None-clause-given : goal.returns-in-None-clause-given
returns-in-None-clause-given c = λ has.
    (uncalled has c.args.heap.now.state (value.Array c.args.of) c.args.args.now (row_in ArrayMethods c.args.name.now) (c.array_method.ensures ∙ ap (option_map (λ m. Some (CallsArray m))) c.in-None.is), refl)

pub returns-in-Some-clause-known : goal.returns-in-Some-clause-known
returns-in-Some-clause-known c = c.valued.ensures.known c.array_call.new.heap.state.cells c.array_call.ensures.known
