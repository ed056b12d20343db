use Rattle.std.proofs.Common.{◌≡◌, ◌++◌, ◌+◌, ◌-◌, ◌∙◌, ap, sym, refl, arith, append-nil, Result, Err}
use Rattle.std.proofs.lemmas.Result.{err_from_is_err_and}
use Rattle.std.specs.List.{repeat}
use Rattle.variant_values.specs.declared.faults.Trouble.{Trouble}
use Rattle.string_calls.proofs.Levels.{writes_more, writes_fails, longer_piece, repeat_next}
use Rattle.string_calls.proofs.builders.StringBuilder.write_repeated.Goals as goal

pub loop-preserved : goal.loop-preserved
loop-preserved c =
    writes_more c.loop.self c.write.new.self c.args.text.now (repeat (c.args.n - (c.loop.counter + 1)) c.args.text.now) _ _ c.in_ok-write.ensures (repeat_next c.args.n c.loop.counter c.args.text.now c.loop-test.true) c.loop.invariant

pub returns-in_err-write : goal.returns-in_err-write
returns-in_err-write c =
    let failed = err_from_is_err_and c.from_residual.result c.from_residual.ensures.1 in
    let q : Result (Unit {0}) Trouble = Err c.in_err-write.field-0.0 in
    writes_fails c.args.self.now c.loop.self c.write.new.self (repeat c.args.n c.args.text.now) c.args.text.now c.from_residual.result q c.in_err-write.field-0.0 (failed.1 ∙ ap Err failed.2) refl c.in_err-write.ensures
    (λ long. longer_piece c.loop.self c.args.text.now _ _ _ _ (repeat_next c.args.n c.loop.counter c.args.text.now c.loop-test.true) c.loop.invariant long)

pub returns : goal.returns
returns c =
    let none : c.args.n - c.loop.counter ≡ 0 = omega arith in
    sym (append-nil c.loop.self) ∙ sym (ap (λ k. c.loop.self ++ repeat k c.args.text.now) none) ∙ c.loop.invariant
