use Rattle.std.proofs.Common.{◌≡◌, ◌∙◌, ◌++◌, ap, sym, refl, ℕ, List, Result, Err}
use Rattle.std.proofs.lemmas.Result.{err_from_is_err_and}
use Rattle.variant_values.specs.declared.faults.Trouble.{Trouble}
use Rattle.variant_values.specs.StringMethods.{replaced}
use Rattle.string_calls.proofs.Levels.{writes_more, writes_fails, writes_last, longer_piece}
use Rattle.string_calls.proofs.Places.{replaced_next, replaced_last}
use Rattle.string_calls.proofs.joins.write_replaced.Goals as goal

pub loop-part-preserved : goal.loop-part-preserved
loop-part-preserved c =
    record {
      utf8 = c.in-Some.ensures.utf8;
      out = writes_more c.loop-part.out c.write_both.new.self (c.in-Some.part.now ++ c.args.with.now) _ _ _ c.in_ok-write_both.ensures (replaced_next c.args.what.now c.args.with.now c.loop-part.rest.now c.in-Some.part.now c.in-Some.after.now c.requires c.in-Some.ensures.parts) c.loop-part.invariant.out;
    }

pub returns-in_err-write_both : goal.returns-in_err-write_both
returns-in_err-write_both c =
    let failed = err_from_is_err_and c.from_residual.result c.from_residual.ensures.1 in
    let q : Result (Unit {0}) Trouble = Err c.in_err-write_both.field-0.0 in
    let piece : List ℕ = c.in-Some.part.now ++ c.args.with.now in
    writes_fails c.args.out.now c.loop-part.out c.write_both.new.self (replaced c.args.what.now c.args.with.now c.args.text.now) piece c.from_residual.result q c.in_err-write_both.field-0.0 (failed.1 ∙ ap Err failed.2) refl c.in_err-write_both.ensures
    (λ long. longer_piece c.loop-part.out piece _ _ _ _ (replaced_next c.args.what.now c.args.with.now c.loop-part.rest.now c.in-Some.part.now c.in-Some.after.now c.requires c.in-Some.ensures.parts) c.loop-part.invariant.out long)

pub returns : goal.returns
returns c =
    writes_last c.args.out.now c.loop-part.out c.write.new.self c.loop-part.rest.now (replaced c.args.what.now c.args.with.now c.args.text.now) c.write.result
    (ap (λ t. c.loop-part.out ++ t) (sym (replaced_last c.args.what.now c.args.with.now c.loop-part.rest.now c.in_default.ensures.parts)) ∙ c.loop-part.invariant.out) c.write.ensures
