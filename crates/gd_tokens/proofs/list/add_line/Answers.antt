use Rattle.std.proofs.Common.{◌≡◌, ◌∙◌, sym, ap, subst, ◌++◌, List, append_assoc, Ok, false}
use Rattle.gd_syntax.specs.declared.token.Token.{Token}
use Rattle.gd_syntax.specs.Layout.{marks_at, line_tail, laid_onto, first_place, indented, ends_in_colon}
use Rattle.gd_tokens.specs.LayoutParts.{layout_of, marks_of}
use Rattle.gd_tokens.specs.LineParts.{line_of}
use Rattle.gd_tokens.specs.ListParts.{IsLaid}
use Rattle.gd_tokens.proofs.Lists.{laid_on, line_laid}
use Rattle.gd_tokens.proofs.list.add_line.Goals as goal

pub returns-clause-laid : goal.returns-clause-laid
returns-clause-laid c = λ behind.
    let line = line_of c.args.line in
    let old = layout_of c.args.layout.now in
    let now = layout_of c.enter.new.self in
    let marks = marks_at c.in-Some.first (marks_of c.in-Ok.shift) in
    let tail = line_tail false now line.ending (behind now) in
    let opens : c.ends_in_colon-opens.result ≡ ends_in_colon line.tokens = c.ends_in_colon-opens.ensures ∙ ap ends_in_colon c.as_slice.ensures.value in
    let entered : indented old line.indent (ends_in_colon line.tokens) ≡ Ok (marks_of c.in-Ok.shift, now) =
    ap (λ i. indented old i (ends_in_colon line.tokens)) (sym c.as_slice-2.ensures.value) ∙ ap (indented old c.as_slice-2.result.now) (sym opens) ∙ c.in-Ok.ensures in
    let added : c.append.new.self.items ≡ c.args.out.now.items ++ (marks ++ line.tokens) =
    c.in_ok-append.ensures.items ∙ ap (λ ts. ts ++ line.tokens) c.in_ok-push_blocks.ensures ∙ append_assoc c.args.out.now.items marks line.tokens in
    laid_on c.args.out.now.items (marks ++ line.tokens) c.end_line-2.new.out.items (laid_onto (first_place line.tokens line.ending) old line behind) tail (behind now) c.end_line-2.result
    (line_laid (first_place line.tokens line.ending) c.in-Some.first old now line (marks_of c.in-Ok.shift) behind (sym c.first_place.ensures ∙ c.in-Some.is) entered)
    (subst (λ (ts : List Token). IsLaid ts tail c.end_line-2.result c.end_line-2.new.out.items (behind now)) added (c.end_line-2.ensures.laid (behind now)))
