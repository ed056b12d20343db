use Rattle.gd_parser.proofs.Others.{annotated_other}
use Rattle.std.proofs.Common.{refl}
use Rattle.gd_parser.proofs.members.annotated.Goals as goal

pub returns-clause-reads : goal.returns-clause-reads
returns-clause-reads c = rw (c.refuse.ensures) (annotated_other c.args.tokens.now c.args.place c.args.before c.args.at _ (c.sees.ensures.no c.if-sees.false) (c.sees-2.ensures.no c.if-sees-2.false) (c.sees-3.ensures.no c.if-sees-3.false) refl)
