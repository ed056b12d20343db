use Rattle.folder_meaning.proofs.Readings.{allowed, some_reading}
use Rattle.folder_meaning.proofs.Unfailed.{unfailed}
use Rattle.folder_meaning.proofs.laws.readings_are_determined.Goals as goal

pub returns-clause-allowed : goal.returns-clause-allowed
returns-clause-allowed c = allowed

pub returns-clause-some : goal.returns-clause-some
returns-clause-some c = some_reading

pub returns-clause-unfailed : goal.returns-clause-unfailed
returns-clause-unfailed c = λ files before now reading allows has same deciding other. unfailed files before now same deciding other reading allows has
