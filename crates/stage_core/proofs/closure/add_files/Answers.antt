use Rattle.std.proofs.Common.{◌∙◌, ◌<◌, refl, get_or}
use Rattle.std.proofs.lemmas.List.{take_more}
use Rattle.std.proofs.lemmas.List.Elements.{Contains-get_or}
use Rattle.stage_core.specs.FileSets.{with_files}
use Rattle.stage_core.proofs.Reach.{with_file_set, with_files-push}
use Rattle.stage_core.proofs.closure.add_files.Goals as goal

pub loop-file-init : goal.loop-file-init
unfolding with_files
loop-file-init c = record { visited = c.requires.visited; so_far = refl; capacity = refl }

pub add_file-requires-clause-in_range : goal.add_file-requires-clause-in_range
add_file-requires-clause-in_range c = c.requires.in_range _ (Contains-get_or c.args.more.now c.loop-file.file-index 0 c.loop-file-test.true)

pub loop-file-preserved : goal.loop-file-preserved
loop-file-preserved c =
    let more = c.args.more.now in
    let i = c.loop-file.file-index in
    let below : get_or more i 0 < c.args.files = c.requires.in_range _ (Contains-get_or more i 0 c.loop-file-test.true) in
    record {
      visited = rw c.add_file.ensures.after (with_file_set _ _ _ below c.loop-file.invariant.visited);
      so_far = rw (c.add_file.ensures.after, c.loop-file.invariant.so_far, take_more more i 0 c.loop-file-test.true, with_files-push) refl;
      capacity = c.add_file.ensures.capacity ∙ c.loop-file.invariant.capacity;
    }
