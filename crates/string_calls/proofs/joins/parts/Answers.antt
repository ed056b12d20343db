use Rattle.std.proofs.Common.{◌≡◌, ◌∙◌, ap, refl, sym, arith, length, Result, Err}
use Rattle.std.proofs.lemmas.Result.{err_from_is_err_and}
use Rattle.variant_values.specs.declared.faults.Trouble.{Trouble}
use Rattle.string_calls.proofs.Parting.{found_next, found_all, found_fails, fits_next, first_fits, last_fits}
use Rattle.string_calls.proofs.joins.parts.Goals as goal

pub loop-part-preserved : goal.loop-part-preserved
loop-part-preserved c = record {
  utf8 = c.in-Some.ensures.utf8;
  found = found_next c.args.by.now c.loop-part.rest.now c.in-Some.part.now c.in-Some.after.now c.loop-part.found _ _ c.requires c.in-Some.ensures.parts c.in_ok-push_part.ensures.0 c.loop-part.invariant.found;
  fits = c.loop-part.invariant.fits ∙ fits_next c.args.by.now c.loop-part.rest.now c.in-Some.part.now c.in-Some.after.now c.requires c.in-Some.ensures.parts c.in_ok-push_part.ensures.1.0;
}

pub returns-in_err-push_part : goal.returns-in_err-push_part
returns-in_err-push_part c =
    let failed = err_from_is_err_and c.from_residual.result c.from_residual.ensures.1 in
    let q : Result (Unit {0}) Trouble = Err c.in_err-push_part.field-0.0 in
    found_fails c.args.by.now c.loop-part.rest.now c.args.text.now c.in-Some.part.now c.loop-part.found c.push_part.new.found c.from_residual.result q c.in_err-push_part.field-0.0 (failed.1 ∙ ap Err failed.2) refl c.in_err-push_part.ensures c.loop-part.invariant.found
    (λ all. first_fits c.args.by.now c.loop-part.rest.now c.in-Some.part.now c.in-Some.after.now c.requires c.in-Some.ensures.parts (sym c.loop-part.invariant.fits ∙ all))

pub returns-in_err-push_part-2 : goal.returns-in_err-push_part-2
returns-in_err-push_part-2 c =
    let failed = err_from_is_err_and c.from_residual-in_err-push_part-2.result c.from_residual-in_err-push_part-2.ensures.1 in
    let q : Result (Unit {0}) Trouble = Err c.in_err-push_part-2.field-0.0 in
    found_fails c.args.by.now c.loop-part.rest.now c.args.text.now c.loop-part.rest.now c.loop-part.found c.push_part-2.new.found c.from_residual-in_err-push_part-2.result q c.in_err-push_part-2.field-0.0 (failed.1 ∙ ap Err failed.2) refl c.in_err-push_part-2.ensures c.loop-part.invariant.found
    (λ all. last_fits c.args.by.now c.loop-part.rest.now c.in_default.ensures.parts (sym c.loop-part.invariant.fits ∙ all))

pub returns : goal.returns
returns c = found_all c.args.by.now c.loop-part.rest.now c.args.text.now c.loop-part.found c.push_part-2.new.found c.in_default.ensures.parts c.in_ok-push_part-2.ensures c.loop-part.invariant.found c.loop-part.invariant.fits
