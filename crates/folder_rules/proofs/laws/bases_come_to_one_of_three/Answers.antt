use Rattle.folder_rules.proofs.Solved.{one_answer, some_answer}
use Rattle.folder_rules.proofs.laws.bases_come_to_one_of_three.Goals as goal

pub returns-clause-some : goal.returns-clause-some
returns-clause-some c = some_answer

pub returns-clause-one : goal.returns-clause-one
returns-clause-one c = one_answer
