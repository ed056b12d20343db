use Rattle.string_calls.proofs.FirstPlaces.{parts_lack, split_joins}
use Rattle.string_calls.proofs.laws.a_split_joins_again.Goals as goal

pub returns-clause-joined : goal.returns-clause-joined
returns-clause-joined c = split_joins

pub returns-clause-lack : goal.returns-clause-lack
returns-clause-lack c = parts_lack
