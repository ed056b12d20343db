use Rattle.variant_values.proofs.Frames.{freed_holds, grown_holds, held_as_living, in_any_order, releases_one, retains_more, swept_holds}
use Rattle.variant_values.proofs.laws.places_are_held.Goals as goal

pub returns-clause-retained : goal.returns-clause-retained
returns-clause-retained c = retains_more

pub returns-clause-released : goal.returns-clause-released
returns-clause-released c = releases_one

pub returns-clause-order : goal.returns-clause-order
returns-clause-order c = in_any_order

pub returns-clause-swept : goal.returns-clause-swept
returns-clause-swept c = swept_holds

pub returns-clause-freed : goal.returns-clause-freed
returns-clause-freed c = freed_holds

pub returns-clause-grown : goal.returns-clause-grown
returns-clause-grown c = grown_holds

pub returns-clause-living : goal.returns-clause-living
returns-clause-living c = held_as_living
