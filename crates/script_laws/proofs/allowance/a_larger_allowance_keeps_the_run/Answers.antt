use Rattle.script_laws.proofs.TwiceRuns.{same_run, front_run, spent_run, needy_run, within_run}
use Rattle.script_laws.proofs.allowance.a_larger_allowance_keeps_the_run.Goals as goal

pub returns-clause-same : goal.returns-clause-same
returns-clause-same c = same_run

pub returns-clause-front : goal.returns-clause-front
returns-clause-front c = front_run

pub returns-clause-spent : goal.returns-clause-spent
returns-clause-spent c = spent_run

pub returns-clause-more : goal.returns-clause-more
returns-clause-more c = needy_run

pub returns-clause-within : goal.returns-clause-within
returns-clause-within c = within_run
