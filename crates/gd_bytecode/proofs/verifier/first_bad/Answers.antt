use Rattle.std.proofs.Common.{◌∙◌, sym, arith}
use Rattle.gd_bytecode.proofs.Places.{first_here, first_behind}
use Rattle.gd_bytecode.proofs.verifier.first_bad.Goals as goal

pub returns-in-Some : goal.returns-in-Some
returns-in-Some c =
    let here = first_here c.args.code.now _ c.loop-function.function-index c.loop-function.before c.in-Some.place c.function-item.result c.as_slice-function-items.ensures c.loop-function-test.true c.function-item.is (sym c.first_bad_in.ensures ∙ c.in-Some.is) c.loop-function.invariant.found in
    sym here

pub loop-function-preserved : goal.loop-function-preserved
loop-function-preserved c = record {
  found = first_behind c.args.code.now _ c.loop-function.function-index c.loop-function.before c.len-size.result c.function-item.result c.as_slice-function-items.ensures c.loop-function-test.true c.function-item.is c.len-size.ensures (sym c.first_bad_in.ensures ∙ c.in-None.is) c.loop-function.invariant.found;
  room = omega (arith, c.len-size.type_inv, c.loop-function.invariant.room);
}
