use Rattle.std.proofs.Common.{◌≡◌, ℕ, ◌<◌, true, vec_capacity, Contains}
use Rattle.stage_core.specs.Rows.{log_of}
use Rattle.stage_core.specs.Machine.{is_requested}
use Rattle.stage_core.specs.FileSets.{IsFileSet}
use Rattle.stage_core.proofs.ready.find_known.Given as goal

abbrev pub invariant-loop-file : goal.invariant-loop-file
invariant-loop-file g l = record {
  visited : IsFileSet l.files l.known.items;
  sound : (file : ℕ) → Contains l.known.items file → is_requested (log_of l.rows) file ≡ true;
  complete : (file : ℕ) → file < l.file → is_requested (log_of l.rows) file ≡ true → Contains l.known.items file;
  capacity : vec_capacity l.known ≡ vec_capacity l.fn.known;
}
