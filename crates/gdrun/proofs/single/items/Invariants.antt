use Rattle.std.proofs.Common.{◌≡◌, map, take}
use Rattle.gd_syntax.specs.FirstScript.{item_of as read_item}
use Rattle.gdrun.specs.Single as spec
use Rattle.gdrun.proofs.single.items.Given as goal

abbrev pub invariant-loop-arg : goal.invariant-loop-arg
invariant-loop-arg l = map read_item l.all.items ≡ map spec.item_of (take l.arg-index l.args)
