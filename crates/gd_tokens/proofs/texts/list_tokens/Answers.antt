use Rattle.std.proofs.Common.{◌≡◌, ◌∙◌, sym, ap, subst, [], List, Bool, Ok, Err, true, false, Result, refl, map}
use Rattle.gd_syntax.specs.declared.fault.SolveError.{SolveError}
use Rattle.gd_syntax.specs.declared.fault.LoadFault.{LoadFault}
use Rattle.gd_syntax.specs.declared.token.Token.{Token}
use Rattle.gd_syntax.specs.Layout.{Layout, before_byte, first_place, front, laid_onto, lines_of, pieces, tokens_of}
use Rattle.gd_tokens.specs.LayoutParts.{layout_of}
use Rattle.gd_tokens.specs.LineParts.{line_of, lines_behind}
use Rattle.gd_tokens.specs.ListParts.{IsLaid, EndsLine, EndsList}
use Rattle.gd_tokens.proofs.Lists.{laid_turn, laid_end, laid_fault, more_lines}
use Rattle.gd_tokens.proofs.texts.list_tokens.Goals as goal

pub loop-out-preserved : goal.loop-out-preserved
loop-out-preserved c =
    let line = line_of c.in_ok-line.line in
    let reader = c.next_line.new.reader in
    let more = map (before_byte c.args.bad) (lines_behind c.in_ok-line.line.ending reader.place reader.rest.now) in
    let behind : Layout → Result (List Token) LoadFault = λ after. tokens_of after more in
    let whole = laid_onto (first_place line.tokens line.ending) (layout_of c.loop-out.layout) line behind in
    let is : c.add_line.result ≡ Ok true = c.in-Ok-true.is ∙ ap Ok c.in-Ok-true.field-0-test in
    let laid = subst (λ (r : Result Bool SolveError). IsLaid c.loop-out.out.items whole r c.add_line.new.out.items (behind (layout_of c.add_line.new.layout))) is (c.add_line.ensures.laid behind) in
    let follows = subst (λ (r : Result Bool SolveError). EndsLine c.in_ok-line.line.ending r) is c.add_line.ensures.follows in
    ap (λ ls. front c.add_line.new.out.items (tokens_of (layout_of c.add_line.new.layout) (map (before_byte c.args.bad) ls))) (sym (more_lines c.in_ok-line.line.ending reader.place reader.rest.now follows))
    ∙ sym (laid_turn c.loop-out.out.items c.add_line.new.out.items (layout_of c.loop-out.layout) (layout_of c.add_line.new.layout) line (map (before_byte c.args.bad) (lines_of [] (pieces 0 c.loop-out.reader.place c.loop-out.reader.rest.now))) more c.in_ok-line.ensures.value laid)
    ∙ c.loop-out.invariant

pub returns-in-Ok-false-clause-answer : goal.returns-in-Ok-false-clause-answer
returns-in-Ok-false-clause-answer c =
    let line = line_of c.in_ok-line.line in
    let reader = c.next_line.new.reader in
    let more = map (before_byte c.args.bad) (lines_behind c.in_ok-line.line.ending reader.place reader.rest.now) in
    let behind : Layout → Result (List Token) LoadFault = λ after. tokens_of after more in
    let whole = laid_onto (first_place line.tokens line.ending) (layout_of c.loop-out.layout) line behind in
    let is : c.add_line.result ≡ Ok false = c.in-Ok-false.is ∙ ap Ok c.in-Ok-false.field-0-test in
    let laid = subst (λ (r : Result Bool SolveError). IsLaid c.loop-out.out.items whole r c.add_line.new.out.items (behind (layout_of c.add_line.new.layout))) is (c.add_line.ensures.laid behind) in
    sym c.loop-out.invariant
    ∙ laid_end c.loop-out.out.items c.add_line.new.out.items (layout_of c.loop-out.layout) (layout_of c.add_line.new.layout) line (map (before_byte c.args.bad) (lines_of [] (pieces 0 c.loop-out.reader.place c.loop-out.reader.rest.now))) more c.in_ok-line.ensures.value laid

pub returns-in-Err-clause-answer : goal.returns-in-Err-clause-answer
returns-in-Err-clause-answer c =
    let line = line_of c.in_ok-line.line in
    let reader = c.next_line.new.reader in
    let more = map (before_byte c.args.bad) (lines_behind c.in_ok-line.line.ending reader.place reader.rest.now) in
    let behind : Layout → Result (List Token) LoadFault = λ after. tokens_of after more in
    let whole = laid_onto (first_place line.tokens line.ending) (layout_of c.loop-out.layout) line behind in
    let laid = subst (λ (r : Result Bool SolveError). IsLaid c.loop-out.out.items whole r c.add_line.new.out.items (behind (layout_of c.add_line.new.layout))) c.in-Err.is (c.add_line.ensures.laid behind) in
    laid_fault c.loop-out.out.items c.add_line.new.out.items (layout_of c.loop-out.layout) (layout_of c.add_line.new.layout) line (map (before_byte c.args.bad) (lines_of [] (pieces 0 c.loop-out.reader.place c.loop-out.reader.rest.now))) more c.in-Err.error _ (Err c.in-Err.error) refl c.in_ok-line.ensures.value laid c.loop-out.invariant

pub returns-in-Ok-false-clause-ended : goal.returns-in-Ok-false-clause-ended
returns-in-Ok-false-clause-ended c =
    let is : c.add_line.result ≡ Ok false = c.in-Ok-false.is ∙ ap Ok c.in-Ok-false.field-0-test in
    subst (λ (r : Result Bool SolveError). EndsList r c.add_line.new.out.items) is c.add_line.ensures.ended
