use Rattle.std.proofs.Common.{rules}
use Rattle.std.proofs.lemmas.List.Sorted.{answers_always}
use Rattle.variant_values.specs.ArrayMethods.{number_before}
use Rattle.container_calls.proofs.Sorting.{numbers_rank, numbers_sorted}
use Rattle.container_calls.proofs.sorts.sort_numbers_of.Goals as goal

pub returns : goal.returns
returns c = numbers_sorted c.args.list.items c.sort_by.new.self.items c.requires c.in_ok-sort_by.ensures.permutation (c.in_ok-sort_by.ensures.sorted number_before numbers_rank (answers_always _ _ _ (λ f a r g h. search rules)))
