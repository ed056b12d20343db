use Rattle.std.proofs.Common.{rules}
use Rattle.std.specs.Prelude.{string_bytes}
use Rattle.std.specs.Ordering.{is_lt}
use Rattle.std.specs.Cmp.Lexicographic.{nat_list_cmp_total}
use Rattle.std.proofs.lemmas.List.Sorted.{ranks_by, answers_always}
use Rattle.host_io.specs.Paths.{path_order}
use Rattle.host_io.proofs.InOrder.{once_sorted, form_sorted, same_files}
use Rattle.host_io.proofs.Listed.{form-files_of}
use Rattle.host_io.proofs.memory.MemoryFolder.new.Goals as goal

pub invariant_of-result : goal.invariant_of-result
invariant_of-result c =
    let files = c.args.files.items in
    let sorted = c.sort_unstable_by.new.self.items in
    let moved = c.sort_unstable_by.ensures.permutation in
    let once = once_sorted files sorted moved c.requires.once in
    let form = form_sorted files sorted moved c.requires.form in
    record {
      form = form;
      told = form-files_of sorted once form;
      once = once;
      ascending = c.sort_unstable_by.ensures.sorted (λ x y. is_lt (path_order (string_bytes x.0) (string_bytes y.0))) (ranks_by nat_list_cmp_total (λ x. string_bytes x.0)) (answers_always _ _ _ (λ f a r f' called. search rules));
    }

pub returns-clause-files : goal.returns-clause-files
returns-clause-files c = same_files _ _ c.sort_unstable_by.ensures.permutation c.requires.once
