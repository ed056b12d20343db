use Rattle.variant_values.proofs.Holds.{let_go}
use Rattle.variant_values.proofs.laws.releases_undo.Goals as goal

pub returns : goal.returns
returns c = λ h v sound. let_go h v sound.places
