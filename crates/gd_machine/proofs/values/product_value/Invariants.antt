use Rattle.std.proofs.Common.{◌≡◌, take, fold, ◌*ℤ◌, w64}
use Rattle.std.specs.Int.{int_wrap}
use Rattle.gd_machine.proofs.values.product_value.Given as goal

-- the factors so far
abbrev pub invariant-loop-factor : goal.invariant-loop-factor
invariant-loop-factor l = l.value ≡ fold (λ value factor. int_wrap w64 (value *ℤ factor)) l.product.first (take l.factor-index l.product.others.items)
