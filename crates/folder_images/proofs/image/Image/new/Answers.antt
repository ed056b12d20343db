use Rattle.std.proofs.Common.{rules}
use Rattle.std.specs.Ordering.{is_lt}
use Rattle.std.specs.Cmp.Lexicographic.{nat_list_cmp_total}
use Rattle.std.proofs.lemmas.List.Sorted.{ranks_by, answers_always}
use Rattle.host_io.specs.Paths.{path_order}
use Rattle.folder_images.proofs.InOrder.{held, is_image}
use Rattle.folder_images.proofs.image.Image.new.Goals as goal

pub invariant_of-result : goal.invariant_of-result
invariant_of-result c = held _ _ c.sort_unstable_by.ensures.permutation c.requires (c.sort_unstable_by.ensures.sorted (λ x y. is_lt (path_order x.0 y.0)) (ranks_by nat_list_cmp_total (λ x. x.0)) (answers_always _ _ _ (λ f a r f' called. search rules)))

pub returns-clause-files : goal.returns-clause-files
returns-clause-files c = is_image _ _ c.sort_unstable_by.ensures.permutation c.requires (c.sort_unstable_by.ensures.sorted (λ x y. is_lt (path_order x.0 y.0)) (ranks_by nat_list_cmp_total (λ x. x.0)) (answers_always _ _ _ (λ f a r f' called. search rules)))
