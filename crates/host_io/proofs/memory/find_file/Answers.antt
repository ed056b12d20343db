use Rattle.std.proofs.Common.{Some, ap, sym, ◌∙◌, rules}
use Rattle.std.specs.Prelude.{string_bytes}
use Rattle.std.proofs.lemmas.Fn.{always_returns_same}
use Rattle.host_io.specs.Paths.{path_order}
use Rattle.host_io.proofs.InOrder.{found, missed}
use Rattle.host_io.proofs.memory.find_file.Goals as goal

pub returns-in-Ok : goal.returns-in-Ok
returns-in-Ok c =
    let by_path = c.in-Ok.ensures.position (λ f. path_order (string_bytes f.0) c.args.path.now) (always_returns_same _ _ _ (λ a r f' called. (search rules, search rules))) in
    let file = c.index-files-place.result in
    ap Some (c.deref.ensures.value ∙ ap (λ f. f.1.items) (sym c.index-files-place.is)) ∙ found c.args.files.now c.args.path.now c.in-Ok.place file c.requires.once c.in-Ok.ensures.bound c.index-files-place.is (rw c.index-files-place.is (by_path file))

pub returns-in-Err : goal.returns-in-Err
returns-in-Err c =
    let by_path = c.in-Err.ensures.position (λ f. path_order (string_bytes f.0) c.args.path.now) (always_returns_same _ _ _ (λ a r f' called. (search rules, search rules))) in
    missed c.args.files.now c.args.path.now c.in-Err.field-0 c.requires.ascending by_path
