use Rattle.gd_tokens.proofs.Scans.{kept_front}
use Rattle.gd_tokens.proofs.signs.signs_for.Goals as goal

pub returns-in-Some : goal.returns-in-Some
returns-in-Some c n some = kept_front c.in-Some.signs.now c.args.text.now c.c-item.result n some c.in-len1-up.len_at_least c.c-item.is c.in-Some.ensures
