use Rattle.string_calls.proofs.FirstPlaces.{found_is_first, nowhere}
use Rattle.string_calls.proofs.laws.a_place_is_the_first.Goals as goal

pub returns-clause-first : goal.returns-clause-first
returns-clause-first c = found_is_first

pub returns-clause-nowhere : goal.returns-clause-nowhere
returns-clause-nowhere c = nowhere
