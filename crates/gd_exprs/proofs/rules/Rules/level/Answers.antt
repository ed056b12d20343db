use Rattle.std.proofs.Common.{arith, ◌<◌, ◌≤◌}
use Rattle.gd_exprs.proofs.rules.Rules.level.Goals as goal

pub level_from_prefix-requires-clause-plain : goal.level_from_prefix-requires-clause-plain
level_from_prefix-requires-clause-plain g c = λ n. absurd (let l : c.args.least < 9 = c.if-least-lt-NOT.true in let n2 : 9 ≤ c.args.least = n in omega arith)
