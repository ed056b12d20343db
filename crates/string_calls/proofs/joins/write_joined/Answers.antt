use Rattle.std.proofs.Common.{◌≡◌, ◌<◌, ◌∙◌, ◌++◌, ◌∷◌, ap, subst, refl, arith, List, ℕ, drop, length, Result, Err}
use Rattle.std.proofs.lemmas.Result.{err_from_is_err_and}
use Rattle.std.specs.List.{flat_map, join_by}
use Rattle.variant_values.specs.declared.values.Value.{Value}
use Rattle.variant_values.specs.declared.faults.Trouble.{Trouble}
use Rattle.variant_values.specs.Operators.{longest}
use Rattle.variant_values.specs.StringMethods.{plain_text}
use Rattle.string_calls.proofs.Levels.{writes_next, item_at, joins_rest, writes_fails, longer}
use Rattle.string_calls.proofs.joins.write_joined.Goals as goal

pub loop-v-preserved : goal.loop-v-preserved
loop-v-preserved c =
    let took = c.in_ok-write_both.ensures ∙ ap (λ t. c.loop-v.out ++ (c.args.separator.now ++ t)) c.plain_text-in-loop-v.ensures in
    writes_next (λ v. c.args.separator.now ++ plain_text v) _ _ _ c.args.others.now c.loop-v.v-index c.v-item.result (item_at c.args.others.now c.loop-v.v-index c.v-item.result (omega arith) c.v-item.is) took c.loop-v.invariant

pub returns-in_err-write_both : goal.returns-in_err-write_both
returns-in_err-write_both c =
    let failed = err_from_is_err_and c.from_residual-in_err-write_both.result c.from_residual-in_err-write_both.ensures.1 in
    let g : Value → List ℕ = λ v. c.args.separator.now ++ plain_text v in
    let all : List Value = c.args.first.now ∷ c.args.others.now in
    let q : Result (Unit {0}) Trouble = Err c.in_err-write_both.field-0.0 in
    let took = c.in_ok-write.ensures ∙ ap (λ t. c.args.out.now ++ t) c.plain_text.ensures in
    let whole : c.loop-v.out ++ flat_map g (drop c.loop-v.v-index c.args.others.now) ≡ c.args.out.now ++ join_by plain_text c.args.separator.now all = c.loop-v.invariant ∙ joins_rest plain_text c.args.separator.now _ _ all c.args.first.now refl took in
    let long_enough : longest < length (c.loop-v.out ++ (c.args.separator.now ++ c.plain_text-in-loop-v.result.now)) → longest < length (c.args.out.now ++ join_by plain_text c.args.separator.now all) =
    λ long. longer g _ _ c.args.others.now c.loop-v.v-index c.v-item.result _ (item_at c.args.others.now c.loop-v.v-index c.v-item.result (omega arith) c.v-item.is) (subst (λ t. longest < length (c.loop-v.out ++ (c.args.separator.now ++ t))) c.plain_text-in-loop-v.ensures long) whole in
    writes_fails c.args.out.now c.loop-v.out c.write_both.new.self (join_by plain_text c.args.separator.now all) (c.args.separator.now ++ c.plain_text-in-loop-v.result.now) c.from_residual-in_err-write_both.result q c.in_err-write_both.field-0.0 (failed.1 ∙ ap Err failed.2) refl c.in_err-write_both.ensures long_enough
