use Rattle.gd_syntax.specs.Tokens.{keywords}
use Rattle.gd_tokens.proofs.Scans.{kept_word}
use Rattle.gd_tokens.proofs.keywords.keywords_for.Goals as goal

pub returns-in-len1-up : goal.returns-in-len1-up
returns-in-len1-up c = kept_word c.keywords_from.result.now keywords c.args.word.now c.c-item.result c.in-len1-up.len_at_least c.c-item.is c.keywords_from.ensures
