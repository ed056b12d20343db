use Rattle.std.proofs.Common.{sym, ◌∙◌}
use Rattle.ref_objects.proofs.Emptying.{passing_more, read_zero}
use Rattle.ref_objects.proofs.sweeps.take_if_zero.Goals as goal

pub returns-then-is_zero : goal.returns-then-is_zero
returns-then-is_zero c = λ first most p. passing_more first c.args.slots.now.items c.take_away.new.slots.items most c.args.total c.take_away.result c.args.x p (read_zero c.args.slots.now.items c.args.x c.index.result.now c.index.ensures c.requires.within (sym c.is_zero.ensures ∙ c.if-is_zero.true)) c.take_away.ensures.kept c.take_away.ensures.cells c.take_away.ensures.held c.take_away.ensures.less
