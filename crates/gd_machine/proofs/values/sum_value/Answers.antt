use Rattle.std.proofs.Common.{◌≡◌, ℤ, w64, to_z-of_z, refl, length, ◌<◌}
use Rattle.gd_syntax.specs.declared.first.SumOp.{SumOp}
use Rattle.gd_syntax.specs.declared.first.FirstProduct.{FirstProduct}
use Rattle.gd_syntax.specs.FirstScript.{product_of}
use Rattle.gd_syntax.specs.FirstRun.{product_value, joined_value}
use Rattle.std.proofs.lemmas.List.Sums.{fold_more}
use Rattle.gd_machine.proofs.values.sum_value.Goals as goal

pub loop-op-preserved : goal.loop-op-preserved
loop-op-preserved c =
    let f = λ (value : ℤ) (term : SumOp × FirstProduct). joined_value value term.0 (product_value (product_of term.1)) in
    let items = c.args.sum.now.others.items in
    let same : c.deref-op-items.result.now ≡ items = c.deref-op-items.ensures.value in
    let within : c.loop-op.op-index < length items = rw same at c.loop-op-test.true in
    let more = fold_more f (product_value (product_of c.args.sum.now.first)) items c.loop-op.op-index c.loop-op-item.result within in
    let value = to_z-of_z {w = w64} {z = c.joined_value-value.result} (record { sfits = c.joined_value-value.type_inv }) in
    let product = to_z-of_z {w = w64} {z = c.product_value.result} (record { sfits = c.product_value.type_inv }) in
    let item = rw same at c.loop-op-item.is in
    rw (value, c.joined_value-value.ensures, product, c.product_value.ensures, c.loop-op.invariant, more, ← item) refl
