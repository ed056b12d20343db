use Rattle.gd_syntax.specs.declared.tree.member.Head.{Head}
use Rattle.std.proofs.Common.{map, ◌++◌, ◌≡◌}
use Rattle.gd_parser.proofs.script.with_annotations.Given as goal

abbrev pub invariant-annotations : goal.invariant-annotations
invariant-annotations l = l.all ≡ l.initial.all ++ map Head.Annotation l.yielded
