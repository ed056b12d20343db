use Rattle.std.proofs.Common.{◌≡◌, true, length, drop, rules, vec_len}
use Rattle.res_paths.specs.Paths.{segments_of, is_res_path}
use Rattle.gd_syntax.specs.Parts.{parts_of}
use Rattle.gd_syntax.proofs.Segments.{names_left}
use Rattle.gd_syntax.proofs.path.folder.Folder.of_file.Goals as goal

pub invariant_of-result : goal.invariant_of-result
invariant_of-result c =
    let good : is_res_path c.args.file.now ≡ true = search rules in
    let all : parts_of c.in_ok-segments.segments.items ≡ segments_of (drop 6 c.args.file.now) = search rules in
    let len : vec_len c.in_ok-segments.segments ≡ length c.in_ok-segments.segments.items = search rules in
    search (rules, names_left c.args.file.now good c.in_ok-segments.segments.items (vec_len c.in_ok-segments.segments) len all)
