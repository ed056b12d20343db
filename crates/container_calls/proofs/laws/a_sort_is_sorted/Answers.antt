use Rattle.variant_values.specs.ArrayMethods.{number_before, text_before}
use Rattle.container_calls.proofs.Sorting.{numbers_rank, texts_rank, order_sorted, order_same}
use Rattle.container_calls.proofs.laws.a_sort_is_sorted.Goals as goal

pub returns-clause-sorted : goal.returns-clause-sorted
returns-clause-sorted c = λ vs. (order_sorted number_before numbers_rank vs, order_sorted text_before texts_rank vs)

pub returns-clause-same : goal.returns-clause-same
returns-clause-same c = λ before vs. order_same before vs
