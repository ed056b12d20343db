use Rattle.project_run.proofs.Whole.{allowed_found, some_found, unfailed_is}
use Rattle.project_run.proofs.image.what_is_found_is_determined.Goals as goal

pub returns-clause-allowed : goal.returns-clause-allowed
returns-clause-allowed c = allowed_found

pub returns-clause-some : goal.returns-clause-some
returns-clause-some c = some_found

pub returns-clause-unfailed : goal.returns-clause-unfailed
returns-clause-unfailed c = λ wanted files calls before now found is has same deciding other. unfailed_is wanted files before now same deciding other calls found is has
