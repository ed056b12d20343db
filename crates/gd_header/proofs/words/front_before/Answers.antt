use Rattle.std.proofs.Common.{◌∙◌, ap, arith}
use Rattle.std.specs.Str.{chars}
use Rattle.gd_header.proofs.Seams.{seam, sized, front_is}
use Rattle.gd_header.proofs.words.front_before.Goals as goal

pub overflow_sub-text : goal.overflow_sub-text
overflow_sub-text c = omega (arith, sized c.args.text.now c.args.end.now c.requires.0 c.utf8.text c.utf8.end c.requires.1)

pub split_at-requires : goal.split_at-requires
split_at-requires c = seam c.args.text.now c.args.end.now c.requires.0 c.utf8.text c.utf8.end c.requires.1

pub returns-clause-front : goal.returns-clause-front
returns-clause-front c n is = ap chars c.split_at.ensures.front ∙ front_is c.args.text.now c.args.end.now n c.utf8.text c.utf8.end is
