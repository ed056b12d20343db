use Rattle.std.proofs.Common.{◌≡◌, ◌≤◌, Some, take, drop, All}
use Rattle.std.specs.Prelude.{vec_len}
use Rattle.std.specs.List.{sum_by}
use Rattle.host_io.specs.Causes.{RoseBy}
use Rattle.host_io.specs.Folder.{Files, texts}
use Rattle.folder_meaning.specs.Image.{unreadable_files, paths_of, size_of}
use Rattle.folder_meaning.specs.ImageFile.{image_of}
use Rattle.folder_meaning.specs.Limits.{max_file_bytes, max_folder_bytes}
use Rattle.folder_meaning.specs.ReadingCalls.{after_calls}
use Rattle.project_run.proofs.SoFar.{AreSoFar}
use Rattle.project_run.proofs.image.read_files.Given as goal

abbrev pub invariant-loop-path : goal.invariant-loop-path
invariant-loop-path g l = record {
  so_far : (files : Files) → g.F.Folder.files l.initial.folder ≡ Some files → AreSoFar files (g.F.Folder.calls l.initial.folder) (g.F.Folder.calls l.folder) l.paths (drop l.path-index l.paths) (image_of l.image.items) l.total l.path-index;
  fits : l.total ≤ max_folder_bytes;
  same : g.F.Folder.files l.folder ≡ g.F.Folder.files l.initial.folder;
  number : g.F.Folder.calls l.folder ≡ after_calls l.path-index (g.F.Folder.calls l.initial.folder);
  count : vec_len l.image ≡ l.path-index;
  deciding : (g.F.Folder.faults l.folder).deciding ≡ (g.F.Folder.faults l.initial.folder).deciding;
  other : RoseBy (unreadable_files (image_of l.image.items)) (g.F.Folder.faults l.initial.folder).other (g.F.Folder.faults l.folder).other;
  read : paths_of (image_of l.image.items) ≡ texts (take l.path-index l.paths);
  short : All (λ file. size_of file.1 ≤ max_file_bytes) (image_of l.image.items);
  sum : sum_by (λ file. size_of file.1) (image_of l.image.items) ≡ l.total;
}
