use Rattle.std.proofs.Common.{◌≡◌, map, take}
use Rattle.std.specs.List.{flat_map}
use Rattle.gd_syntax.specs.FirstScript.{print_of}
use Rattle.gdrun.specs.Single.{member_lines}
use Rattle.gdrun.proofs.single.script_of_tree.Given as goal

abbrev pub invariant-loop-member : goal.invariant-loop-member
invariant-loop-member l = map print_of l.prints.items ≡ flat_map member_lines (take l.member-index l.tree.members)
