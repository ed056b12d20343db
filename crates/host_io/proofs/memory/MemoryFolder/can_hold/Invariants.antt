use Rattle.std.proofs.Common.{◌≡◌, List, ℕ, Bor, take}
use Rattle.std.specs.List.{IsDistinct, list_any}
use Rattle.std.specs.BTreeSet.{contains}
use Rattle.host_io.specs.Folder.{AreProjectPaths}
use Rattle.host_io.specs.Memory.{paths_of}
use Rattle.host_io.specs.Paths.{path_order, same_path}
use Rattle.host_io.proofs.memory.MemoryFolder.can_hold.Given as goal

abbrev pub invariant-loop-path : goal.invariant-loop-path
invariant-loop-path l = record {
  form : AreProjectPaths (paths_of (take l.path-index l.files));
  once : IsDistinct same_path (paths_of (take l.path-index l.files));
  seen : (q : Bor (List ℕ)) → contains (λ x y. path_order x.now y.now) l.seen q ≡ list_any (same_path q.now) (paths_of (take l.path-index l.files));
}
