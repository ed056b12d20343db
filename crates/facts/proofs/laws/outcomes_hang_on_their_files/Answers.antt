use Rattle.facts.proofs.OutcomeAgreement.{outcome_there, alike_back}
use Rattle.facts.proofs.laws.outcomes_hang_on_their_files.Goals as goal

pub returns-clause-there : goal.returns-clause-there
returns-clause-there g c = outcome_there g.F.HasLikeness.likeness.stages.stage g.F.HasLikeness.likeness.stages.order g.F.HasLikeness.likeness.stages.fault g.F.HasLikeness.likeness.other_fault g.F.HasLikeness.likeness.stages.needs g.F.HasLikeness.likeness.other_needs g.F.HasLikeness.likeness.Inside g.F.HasLikeness.likeness.alike

pub returns-clause-back : goal.returns-clause-back
returns-clause-back g c = outcome_there g.F.HasLikeness.likeness.stages.stage g.F.HasLikeness.likeness.stages.order g.F.HasLikeness.likeness.other_fault g.F.HasLikeness.likeness.stages.fault g.F.HasLikeness.likeness.other_needs g.F.HasLikeness.likeness.stages.needs g.F.HasLikeness.likeness.Inside (alike_back g.F.HasLikeness.likeness.stages.fault g.F.HasLikeness.likeness.other_fault g.F.HasLikeness.likeness.stages.needs g.F.HasLikeness.likeness.other_needs g.F.HasLikeness.likeness.Inside g.F.HasLikeness.likeness.alike)
