use Rattle.std.proofs.Common.{◌≡◌, take, fold, ℤ}
use Rattle.gd_syntax.specs.declared.first.SumOp.{SumOp}
use Rattle.gd_syntax.specs.declared.first.FirstProduct.{FirstProduct}
use Rattle.gd_syntax.specs.FirstScript.{product_of}
use Rattle.gd_syntax.specs.FirstRun.{product_value, joined_value}
use Rattle.gd_machine.proofs.values.sum_value.Given as goal

-- the terms so far
abbrev pub invariant-loop-op : goal.invariant-loop-op
invariant-loop-op l = l.value ≡ fold (λ (value : ℤ) (term : SumOp × FirstProduct). joined_value value term.0 (product_value (product_of term.1))) (product_value (product_of l.sum.first)) (take l.op-index l.sum.others.items)
