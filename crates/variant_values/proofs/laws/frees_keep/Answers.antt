use Rattle.variant_values.proofs.Freed.{freed_keeps}
use Rattle.variant_values.proofs.laws.frees_keep.Goals as goal

pub returns : goal.returns
returns c = λ h new top single freed v. freed_keeps h new top single freed v
