use Rattle.std.proofs.Common.{◌≡◌, length, drop}
use Rattle.std.specs.declared.option.Option.TheVariants.{Some}
use Rattle.res_paths.specs.Paths.{segments_of}
use Rattle.gd_syntax.specs.ResPath.{resolved}
use Rattle.gd_syntax.proofs.path.folder.Folder.follow.Given as goal

-- the parts that are left lead on to where all lead from the start
abbrev pub invariant-loop-part : goal.invariant-loop-part
invariant-loop-part l =
    resolved (Some l.self) (drop (length l.yielded) (segments_of l.text)) ≡ resolved (Some l.initial.self) (segments_of l.text)
