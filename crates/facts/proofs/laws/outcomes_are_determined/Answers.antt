use Rattle.facts.proofs.Outcomes.{only_outcome, outcome, ended_refused}
use Rattle.facts.proofs.laws.outcomes_are_determined.Goals as goal

pub returns-clause-one : goal.returns-clause-one
returns-clause-one g c = only_outcome g.S.HasStages.stages.stage g.S.HasStages.stages.order g.S.HasStages.stages.fault g.S.HasStages.stages.needs

pub returns-clause-some : goal.returns-clause-some
returns-clause-some g c = outcome g.S.HasStages.stages.stage g.S.HasStages.stages.order g.S.HasStages.stages.fault g.S.HasStages.stages.needs

pub returns-clause-cause : goal.returns-clause-cause
returns-clause-cause g c = ended_refused g.S.HasStages.stages.stage g.S.HasStages.stages.order g.S.HasStages.stages.fault g.S.HasStages.stages.needs
