use Rattle.std.proofs.Common.{◌≡◌, refl, sym, None, Some}
use Rattle.std.specs.FinMap.{find}
use Rattle.host_io.specs.Paths.{path_order}
use Rattle.folder_meaning.specs.ImageFile.{image_of}
use Rattle.gdrun.proofs.run.run_file.Goals as goal

pub returns-in_default : goal.returns-in_default
returns-in_default g c =
    let absent : find path_order c.args.path (image_of c.args.image.now) ≡ None = sym (rw (c.in_default.is, c.as_str.ensures) at c.find_file.ensures.found) in
    record { outcome = _; means = rw absent refl; wrote = rw c.as_str-in_default.ensures at c.miss.ensures }

pub returns-in-None : goal.returns-in-None
returns-in-None g c =
    let there : find path_order c.args.path (image_of c.args.image.now) ≡ Some None = sym (rw (c.in-Some.is, c.in-None.is, c.as_str.ensures) at c.find_file.ensures.found) in
    record { outcome = _; means = rw there refl; wrote = rw c.as_str-in-None.ensures at c.refuse.ensures }
