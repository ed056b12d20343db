use Rattle.std.proofs.Common.{◌≡◌, ◌++◌, map, take}
use Rattle.std.specs.List.{flat_map}
use Rattle.gd_syntax.specs.FirstScript.{print_of}
use Rattle.gdrun.specs.Single.{statement_lines}
use Rattle.gdrun.proofs.single.push_block.Given as goal

abbrev pub invariant-loop-statement : goal.invariant-loop-statement
invariant-loop-statement l = map print_of l.prints.items ≡ map print_of l.initial.prints.items ++ flat_map statement_lines (take l.statement-index l.body)
