use Rattle.string_calls.proofs.FirstPlaces.{part_is_found}
use Rattle.string_calls.proofs.laws.a_part_is_contained.Goals as goal

pub returns : goal.returns
returns c = part_is_found
