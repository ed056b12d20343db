use Rattle.std.proofs.Common.{◌∙◌, sym, ap, ◌∷◌, [], arith}
use Rattle.gd_syntax.specs.Layout.{breaks, at}
use Rattle.gd_tokens.specs.FoundParts.{found_of}
use Rattle.gd_tokens.specs.LineParts.{front_of, with_gap, with_blank, with_token, pieces_behind}
use Rattle.gd_tokens.proofs.Pieces.{blank_case, gap_case, token_case, wrong_case, unended_case, stopped, resume}
use Rattle.gd_tokens.proofs.lines.LineStart.read.Goals as goal

pub returns-in_default : goal.returns-in_default
returns-in_default c = stopped (front_of c.args.self.now) c.stop.result c.args.reader.now.place c.args.reader.now.rest.now (omega arith) c.stop.ensures

pub returns-in-Wrong : goal.returns-in-Wrong
returns-in-Wrong c =
    let line = c.args.self.now in
    let reader = c.args.reader.now in (
      wrong_case (front_of line) reader.place reader.rest.now c.in-Wrong.kind c.in-Wrong.n c.in-len1-up.len_at_least (sym c.in_ok-found.ensures.value ∙ ap found_of c.in-Wrong.is)
          ∙ ap (λ p. record { start = line.start; indent = line.indent.items; tokens = line.tokens.items; ending = breaks reader.place (at c.in-Wrong.kind p) } ∷ []) (sym c.place_at.ensures.value),
      tt,
    )

pub returns-in-Unended : goal.returns-in-Unended
returns-in-Unended c =
    (unended_case (front_of c.args.self.now) c.args.reader.now.place c.args.reader.now.rest.now c.in-len1-up.len_at_least (sym c.in_ok-found.ensures.value ∙ ap found_of c.in-Unended.is), tt)

pub returns-in_ok-push_blank-in-Space : goal.returns-in_ok-push_blank-in-Space
returns-in_ok-push_blank-in-Space c =
    let front = front_of c.args.self.now in
    let reader = c.args.reader.now in (
      blank_case front reader.place reader.rest.now c.c-item.result c.in-len1-up.len_at_least c.c-item.is (sym c.in_ok-found.ensures.value ∙ ap found_of c.in-Space.is)
          ∙ resume (with_blank front c.c-item.result) (front_of c.push_blank.new.self) (pieces_behind 1 reader.place reader.rest.now) _ c.in_ok-push_blank-in-Space.ensures c.pass.ensures.pieces,
      c.pass.ensures.shorter,
    )

pub returns-in-Gap : goal.returns-in-Gap
returns-in-Gap c =
    let front = front_of c.args.self.now in
    let reader = c.args.reader.now in (
      gap_case front reader.place reader.rest.now c.in-Gap.n c.in-len1-up.len_at_least (sym c.in_ok-found.ensures.value ∙ ap found_of c.in-Gap.is)
          ∙ resume (with_gap front) (front_of c.push_gap.new.self) (pieces_behind c.in-Gap.n reader.place reader.rest.now) _ c.push_gap.ensures c.pass-in-Gap.ensures.pieces,
      c.pass-in-Gap.ensures.shorter,
    )

pub returns-in_ok-push_token-in-Token : goal.returns-in_ok-push_token-in-Token
returns-in_ok-push_token-in-Token c =
    let front = front_of c.args.self.now in
    let reader = c.args.reader.now in (
      token_case front reader.place reader.rest.now c.in-Token.kind c.in-Token.n c.in-len1-up.len_at_least (sym c.in_ok-found.ensures.value ∙ ap found_of c.in-Token.is)
          ∙ resume (with_token front c.in-Token.kind reader.place) (front_of c.push_token.new.self) (pieces_behind c.in-Token.n reader.place reader.rest.now) _ c.in_ok-push_token-in-Token.ensures c.pass-in-Token.ensures.pieces,
      c.pass-in-Token.ensures.shorter,
    )
