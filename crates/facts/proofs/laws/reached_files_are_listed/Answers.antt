use Rattle.facts.proofs.Reach.{cover}
use Rattle.facts.proofs.laws.reached_files_are_listed.Goals as goal

pub returns : goal.returns
returns c = cover
