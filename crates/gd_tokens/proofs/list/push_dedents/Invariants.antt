use Rattle.std.proofs.Common.{◌≡◌, ◌++◌, replicate}
use Rattle.gd_syntax.specs.declared.token.Mark.TheVariants.{Dedent}
use Rattle.gd_syntax.specs.Layout.{mark_at}
use Rattle.gd_tokens.proofs.list.push_dedents.Given as goal

abbrev pub invariant-loop : goal.invariant-loop
invariant-loop l = l.out.items ≡ l.fn.out.items ++ replicate l.counter (mark_at l.place Dedent)
