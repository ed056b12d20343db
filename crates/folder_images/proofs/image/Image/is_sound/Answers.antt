use Rattle.std.proofs.Common.{subst}
use Rattle.std.specs.List.Sorted.{IsStrictlySortedBy}
use Rattle.host_io.specs.Paths.{path_order}
use Rattle.folder_meaning.specs.Image.{paths_of}
use Rattle.folder_images.proofs.InOrder.{strictly}
use Rattle.folder_images.proofs.image.Image.is_sound.Goals as goal

pub returns-clause-ascending : goal.returns-clause-ascending
returns-clause-ascending c = subst (λ image. IsStrictlySortedBy path_order (paths_of image)) c.self.view_is (strictly _ c.self.invariant.ascending c.self.invariant.whole.once)
