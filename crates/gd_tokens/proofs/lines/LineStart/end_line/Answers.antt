use Rattle.std.proofs.Common.{◌≡◌, ◌∙◌, sym, ap, ◌∷◌, [], length, arith, ◌≤◌}
use Rattle.std.proofs.lemmas.Bool.Decides.{nat_tests}
use Rattle.std.proofs.lemmas.List.{length-reverse}
use Rattle.gd_syntax.specs.Layout.{lines_of, ends}
use Rattle.gd_tokens.specs.LineParts.{front_of, with_gap, pieces_behind}
use Rattle.gd_tokens.proofs.Pieces.{end_case, inner_case, resume, none_opened}
use Rattle.gd_tokens.proofs.lines.LineStart.end_line.Goals as goal

pub returns-then-is_empty : goal.returns-then-is_empty
returns-then-is_empty c =
    let line = c.args.self.now in
    let none : length line.opened.items ≡ 0 = grind (arith, nat_tests) in
    λ is. (
      end_case (front_of line) c.args.reader.now.place c.args.reader.now.rest.now c.args.n (none_opened line.opened.items none) c.requires.some is
          ∙ ap (λ ps. record { start = line.start; indent = line.indent.items; tokens = line.tokens.items; ending = ends c.args.reader.now.place } ∷ lines_of [] ps) (sym c.pass.ensures.pieces),
      c.pass.ensures.shorter,
    )

pub returns : goal.returns
returns c =
    let line = c.args.self.now in
    let some : 1 ≤ length line.opened.items = grind (arith, nat_tests) in
    λ is. (
      inner_case (front_of line) c.args.reader.now.place c.args.reader.now.rest.now c.args.n (omega (arith, length-reverse line.opened.items, some)) c.requires.some is
          ∙ resume (with_gap (front_of line)) (front_of c.push_gap.new.self) (pieces_behind c.args.n c.args.reader.now.place c.args.reader.now.rest.now) _ c.push_gap.ensures c.pass.ensures.pieces,
      c.pass.ensures.shorter,
    )
