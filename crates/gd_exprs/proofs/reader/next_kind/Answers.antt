use Rattle.std.proofs.Common.{arith, ◌∙◌}
use Rattle.gd_exprs.proofs.Parts.{end_next}
use Rattle.gd_exprs.proofs.reader.next_kind.Goals as goal

pub returns-else-next-tokens : goal.returns-else-next-tokens
returns-else-next-tokens c = c.kind_at-else-next-tokens.ensures ∙ end_next c.args.tokens.now c.args.at c.requires.within (omega arith) c.requires.ended
