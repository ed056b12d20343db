use Rattle.std.proofs.Common.{Some, sym, subst, refl, ◌∙◌, ap}
use Rattle.std.specs.Prelude.{option_map}
use Rattle.variant_values.specs.declared.values.Value.TheVariants as value
use Rattle.native_calls.specs.Table.{StringMethods, CallsString, row_in}
use Rattle.machine_calls.specs.Answers.{HasAnswered}
use Rattle.machine_calls.proofs.Rows.{called, uncalled}
use Rattle.machine_calls.proofs.methods.of_string.Goals as goal

pub returns-in-Some-clause-given : goal.returns-in-Some-clause-given
returns-in-Some-clause-given c = λ has.
    subst (λ g. HasAnswered c.valued.result c.args.args.now c.args.heap.now.state c.string_call.new.heap.state g)
    (sym (called has c.args.heap.now.state (value.Str c.args.of.now) c.args.args.now (row_in StringMethods c.args.name.now) (CallsString c.in-Some.method) (c.string_method.ensures ∙ ap (option_map (λ m. Some (CallsString m))) c.in-Some.is)))
    (c.valued.ensures.given c.args.args.now c.args.heap.now.state c.string_call.new.heap.state _ c.string_call.ensures.given)

pub returns-in-None-clause-given : goal.returns-in-None-clause-given
returns-in-None-clause-given c = λ has.
    (uncalled has c.args.heap.now.state (value.Str c.args.of.now) c.args.args.now (row_in StringMethods c.args.name.now) (c.string_method.ensures ∙ ap (option_map (λ m. Some (CallsString m))) c.in-None.is), refl)

pub returns-in-Some-clause-known : goal.returns-in-Some-clause-known
returns-in-Some-clause-known c = c.valued.ensures.known c.string_call.new.heap.state.cells c.string_call.ensures.known
