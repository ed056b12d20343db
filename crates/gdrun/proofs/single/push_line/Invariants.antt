use Rattle.std.proofs.Common.{◌≡◌, ◌++◌, map, take}
use Rattle.std.specs.List.{flat_map}
use Rattle.gd_syntax.specs.FirstScript.{print_of}
use Rattle.gdrun.specs.Single.{simple_lines}
use Rattle.gdrun.proofs.single.push_line.Given as goal

abbrev pub invariant-loop-simple : goal.invariant-loop-simple
invariant-loop-simple l = map print_of l.prints.items ≡ map print_of l.initial.prints.items ++ flat_map simple_lines (take l.simple-index l.all)
