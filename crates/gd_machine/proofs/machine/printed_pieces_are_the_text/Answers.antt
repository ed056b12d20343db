use Rattle.std.proofs.Common.{◌-◌, take}
use Rattle.std.proofs.lemmas.List.Folds.{flat_map-map}
use Rattle.gd_syntax.specs.FirstRun.{print_text}
use Rattle.gd_machine.proofs.machine.printed_pieces_are_the_text.Goals as goal

pub returns : goal.returns
returns c = λ script allowed. flat_map-map (λ piece. piece) print_text (take (allowed - 1) script)
