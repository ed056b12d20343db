use Rattle.std.proofs.Common.{◌∙◌, sym, ap, rules}
use Rattle.std.proofs.lemmas.Fn.{always_returns_same}
use Rattle.host_io.specs.Paths.{path_order}
use Rattle.folder_images.specs.Files.{file_number}
use Rattle.folder_images.proofs.InOrder.{found_first, missed}
use Rattle.folder_images.proofs.image.Image.find.Goals as goal

pub returns-in-Ok : goal.returns-in-Ok
returns-in-Ok c =
    let by_path = c.in-Ok.ensures.position (λ f. path_order f.0 c.args.path.now) (always_returns_same _ _ _ (λ a r f' called. (search rules, search rules))) in
    let list = c.deref.ensures.value in
    sym (ap (λ image. file_number image c.args.path.now) (sym c.self.view_is) ∙ found_first c.self.inside.files.items c.args.path.now c.in-Ok.place c.self.invariant.whole.once (rw (sym list) c.in-Ok.ensures.bound) (rw (sym list) by_path))

pub returns-in-Err : goal.returns-in-Err
returns-in-Err c =
    let by_path = c.in-Err.ensures.position (λ f. path_order f.0 c.args.path.now) (always_returns_same _ _ _ (λ a r f' called. (search rules, search rules))) in
    let list = c.deref.ensures.value in
    sym (ap (λ image. file_number image c.args.path.now) (sym c.self.view_is) ∙ missed c.self.inside.files.items c.args.path.now c.in-Err.field-0 c.self.invariant.ascending (rw (sym list) by_path))
