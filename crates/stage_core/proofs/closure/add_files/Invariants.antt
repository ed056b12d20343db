use Rattle.std.proofs.Common.{◌≡◌, take, vec_capacity}
use Rattle.stage_core.specs.FileSets.{with_files, IsFileSet}
use Rattle.stage_core.proofs.closure.add_files.Given as goal

abbrev pub invariant-loop-file : goal.invariant-loop-file
invariant-loop-file l = record {
  visited : IsFileSet l.files l.visited.items;
  so_far : l.visited.items ≡ with_files l.initial.visited.items (take l.file-index l.more);
  capacity : vec_capacity l.visited ≡ vec_capacity l.initial.visited;
}
