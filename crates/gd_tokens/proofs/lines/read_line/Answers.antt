use Rattle.std.proofs.Common.{◌∙◌, ap, arith}
use Rattle.gd_tokens.specs.LineParts.{lines_from}
use Rattle.gd_tokens.proofs.Pieces.{from_start}
use Rattle.gd_tokens.proofs.lines.read_line.Goals as goal

pub loop-line-init : goal.loop-line-init
loop-line-init c =
    let reader = c.args.reader.now in
    (ap (λ front. lines_from front reader.place reader.rest.now) c.new-line.ensures ∙ from_start reader.place reader.rest.now, omega arith)
