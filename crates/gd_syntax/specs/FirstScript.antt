-- The plain data that the code's tree stands for.
use Rattle.std.specs.Prelude.{map, string_bytes}
use Rattle.gd_syntax.specs.declared.first.FirstProduct.{FirstProduct}
use Rattle.gd_syntax.specs.declared.first.FirstSum.{FirstSum}
use Rattle.gd_syntax.specs.declared.first.FirstItem.{FirstItem}
use Rattle.gd_syntax.specs.declared.first.FirstItem.TheVariants.{Text, Sum as the_sum}
use Rattle.gd_syntax.specs.declared.first.FirstPrint.{FirstPrint}
use Rattle.gd_syntax.specs.declared.first.FirstScript.{FirstScript}
use Rattle.gd_syntax.specs.FirstTree.{Product, Sum, Item, text_item, sum_item, Print, Script}

abbrev pub product_of : FirstProduct → Product
product_of product = record { first = product.first; others = product.others.items }

abbrev pub sum_of : FirstSum → Sum
sum_of sum = record { first = product_of sum.first; others = map (λ term. (term.0, product_of term.1)) sum.others.items }

abbrev pub item_of : FirstItem → Item
item_of (Text text) = text_item (string_bytes text)
item_of (the_sum sum) = sum_item (sum_of sum)

abbrev pub print_of : FirstPrint → Print
print_of print = record { line = print.line; items = map item_of print.items.items }

abbrev pub script_of : FirstScript → Script
script_of script = map print_of script.prints.items
