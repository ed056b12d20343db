use Rattle.std.proofs.Common.{◌∙◌, ap, sym, subst, List}
use Rattle.variant_values.specs.declared.values.Value.{Value}
use Rattle.variant_values.specs.Operators.{Answers, Outcome}
use Rattle.variant_values.specs.Comparisons.{first_equal, same_value}
use Rattle.variant_values.specs.Operations.{is_found, within}
use Rattle.container_calls.proofs.operations.within.Goals as goal

pub returns-in-Array : goal.returns-in-Array
returns-in-Array c =
    let P : Outcome → Type 0 = λ o. Answers c.is_found.result o in
    subst P
    (ap is_found (c.first_equal.ensures.found ∙ ap (λ (vs : List Value). first_equal (λ w. same_value c.args.heap.now.state.cells c.args.a.now w) 0 vs) c.items.ensures.value)
    ∙ sym (ap (λ (w : Value). within c.args.heap.now.state.cells c.args.a.now w) c.in-Array.is))
    c.is_found.ensures
