use Rattle.std.proofs.Common.{◌≡◌, Err, ap, ◌∙◌, arith}
use Rattle.std.specs.Prelude.{string_bytes}
use Rattle.std.specs.FinMap.{entries, len-entries}
use Rattle.std.proofs.lemmas.List.{length-map}
use Rattle.std.proofs.lemmas.List.Sorted.{length_permutation}
use Rattle.host_io.specs.declared.folder.ListError.TheVariants.{TooMany}
use Rattle.project_run.proofs.Sorting.{ascending, form, sorted_is_keys}
use Rattle.project_run.proofs.image.list_paths.Goals as goal

pub returns-in-Ok-clause-listed : goal.returns-in-Ok-clause-listed
returns-in-Ok-clause-listed g c =
    let listing = c.in-Ok.ensures.listing in
    let sorted = c.sort_unstable.new.self.items in
    let moved = c.sort_unstable.ensures.permutation in
    record {
      ascending = ascending _ _ listing.once moved c.sort_unstable.ensures.sorted;
      form = form _ _ listing.form moved;
      few = omega (arith, length-map sorted string_bytes, length-map c.in-Ok.paths.items string_bytes, length_permutation _ _ moved, listing.within);
    }

pub returns-in-Ok-clause-told : goal.returns-in-Ok-clause-told
returns-in-Ok-clause-told g c = λ files same. sorted_is_keys files _ _ (rw same at c.in-Ok.ensures.told) c.in-Ok.ensures.listing.once c.sort_unstable.ensures.permutation c.sort_unstable.ensures.sorted

pub returns-in-Err-TooMany-clause-told : goal.returns-in-Err-TooMany-clause-told
returns-in-Err-TooMany-clause-told g c = λ files same.
    let is : c.list.result ≡ Err TooMany = c.in-Err-TooMany.is ∙ ap Err c.in-Err-TooMany.field-0-is in
    let many = rw same at (rw is at c.list.ensures.told) in
    omega (arith, many, len-entries files, length-map (entries files) (λ e. e.0))
