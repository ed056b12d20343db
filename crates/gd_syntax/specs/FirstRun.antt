-- What the machine prints of its script, and how it ends.
use Rattle.std.specs.Prelude.{ℕ, ◌+◌, ◌-◌, ℤ, ◌+ℤ◌, ◌-ℤ◌, ◌*ℤ◌, List, [], ◌∷◌, ◌++◌, length, take, drop, fold, codes}
use Rattle.std.specs.List.{flat_map}
use Rattle.std.specs.Fmt.{decimal, signed_decimal}
use Rattle.std.specs.Int.{int_wrap, w64}
use Rattle.gd_syntax.specs.declared.first.SumOp.{SumOp}
use Rattle.gd_syntax.specs.declared.first.SumOp.TheVariants.{Add, Sub}
use Rattle.gd_syntax.specs.FirstTree.{Product, Sum, Item, text_item, sum_item, Print, Script}

-- Each operator takes its operands from left to right, and wraps around at 64 bits.
abbrev pub product_value : Product → ℤ
product_value product = fold (λ value factor. int_wrap w64 (value *ℤ factor)) product.first product.others

abbrev pub joined_value : ℤ → SumOp → ℤ → ℤ
joined_value value Add next = int_wrap w64 (value +ℤ next)
joined_value value Sub next = int_wrap w64 (value -ℤ next)

abbrev pub sum_value : Sum → ℤ
sum_value sum = fold (λ value term. joined_value value term.0 (product_value term.1)) (product_value sum.first) sum.others

abbrev pub item_text : Item → List ℕ
item_text (text_item text) = text
item_text (sum_item sum) = signed_decimal (sum_value sum)

-- the items, one after the other, and a newline
abbrev pub print_text : Print → List ℕ
print_text print = flat_map item_text print.items ++ codes "\n"

-- How a run ends: after its last statement, with the steps that it took and the objects that are left; or at a line
-- that finds no step, with the steps that were allowed.
pub data RunEnd : Type 0 where
  ended : ℕ → ℕ → RunEnd
  spent : ℕ → ℕ → RunEnd

-- what a run prints, and how it ends
pub record Run : Type 0 where
  pub text : List ℕ
  pub end : RunEnd

-- the end of a run that has these statements left when its steps are spent
abbrev pub end_before : ℕ → ℕ → Script → RunEnd
end_before used allowed [] = ended used 0
end_before used allowed (print ∷ prints) = spent print.line allowed

-- The call of `_init` takes the first step, and each statement takes one. The instance goes with the run, so no object
-- is left.
abbrev pub run_of : Script → ℕ → Run
run_of script allowed = record {
  text = flat_map print_text (take (allowed - 1) script);
  end = end_before (1 + length script) allowed (drop (allowed - 1) script);
}

-- the outcome line of a run of the script at this path
abbrev pub end_line : List ℕ → RunEnd → List ℕ
end_line path (ended steps left) = codes "done steps " ++ decimal steps ++ codes " left " ++ decimal left ++ codes "\n"
end_line path (spent line steps) = codes "spent " ++ path ++ codes ":" ++ decimal line ++ codes " steps " ++ decimal steps ++ codes "\n"
