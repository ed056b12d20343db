use Rattle.gd_tokens.proofs.Ended.{ended_by}
use Rattle.gd_tokens.proofs.list.push_end.Goals as goal

pub returns-clause-ended : goal.returns-clause-ended
returns-clause-ended c = ended_by c.push_mark.result c.push_dedents.new.out.items c.push_mark.new.out.items c.args.place c.push_mark.ensures
