use Rattle.script_laws.proofs.TwiceRuns.{same_call, call_prints, call_steps, spent_call}
use Rattle.script_laws.proofs.allowance.a_call_goes_on.Goals as goal

pub returns-clause-same : goal.returns-clause-same
returns-clause-same c = same_call

pub returns-clause-text : goal.returns-clause-text
returns-clause-text c = call_prints

pub returns-clause-steps : goal.returns-clause-steps
returns-clause-steps c = call_steps

pub returns-clause-spent : goal.returns-clause-spent
returns-clause-spent c = spent_call
