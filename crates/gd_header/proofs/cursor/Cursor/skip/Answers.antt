use Rattle.std.proofs.Common.{length, arith}
use Rattle.std.specs.Str.{chars}
use Rattle.gd_header.proofs.Skips.{met_end}
use Rattle.gd_header.proofs.cursor.Cursor.skip.Goals as goal

pub returns-in-None-clause-shorter : goal.returns-in-None-clause-shorter
returns-in-None-clause-shorter c some any =
    let i = c.loop-left.invariant in
    let less = met_end c.loop-left.left c.args.n (length c.args.self.now.rest.now) (length c.loop-left.self.rest.now) (chars c.args.self.now.rest.now) (chars c.loop-left.self.rest.now) c.in-None.ensures.value.0 any i.4 i.3 i.5 in
    omega (arith, less, c.next.ensures.within)
