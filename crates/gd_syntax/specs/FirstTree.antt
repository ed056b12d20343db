-- What the machine runs, as plain data: an `_init` whose lines print sums of whole numbers and texts.
use Rattle.std.specs.Prelude.{ℕ, ℤ, List}
use Rattle.gd_syntax.specs.declared.first.SumOp.{SumOp}

-- whole numbers that are multiplied
pub record Product : Type 0 where
  pub first : ℤ
  pub others : List ℤ

-- products that are added and subtracted
pub record Sum : Type 0 where
  pub first : Product
  pub others : List (SumOp × Product)

-- what a `print` is given: the bytes of a string, or a sum
pub data Item : Type 0 where
  text_item : List ℕ → Item
  sum_item : Sum → Item

-- a line that prints
pub record Print : Type 0 where
  pub line : ℕ
  pub items : List Item

abbrev pub Script : Type 0
Script = List Print
