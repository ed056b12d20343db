-- Tokens at the end of a list.
use Rattle.std.proofs.Common.{◌≡◌, refl, sym, ap, ◌∙◌, ℕ, zero, suc, List, [], ◌∷◌, ◌++◌, replicate, Bool, true, false, Option, Some, Result, Ok, Err, append_assoc}
use Rattle.gd_syntax.specs.declared.fault.Place.{Place}
use Rattle.gd_syntax.specs.declared.token.Mark.{Mark}
use Rattle.gd_syntax.specs.declared.token.Token.{Token}
use Rattle.gd_syntax.specs.Layout.{Answer, IsAnswer, Layout, Line, first_place, lines_of, pieces, tokens_of, front, mark_at, marks_at, indented, ends_in_colon, laid_onto, line_onto, line_tail}
use Rattle.gd_syntax.specs.declared.fault.SolveError.{SolveError}
use Rattle.gd_syntax.specs.declared.fault.SolveError.TheVariants.{Fault, NoMemory}
use Rattle.std.specs.Prelude.{Vec, length, ◌<◌}
use Rattle.std.specs.declared.alloc.Global.{Global}
use Rattle.gd_tokens.specs.declared.lines.Ending.{Ending}
use Rattle.gd_tokens.specs.declared.lines.Ending.TheVariants.{Ends, Stops, Unclosed, Breaks}
use Rattle.gd_tokens.specs.LineParts.{lines_behind, GoesOn}
use Rattle.gd_tokens.specs.ListParts.{IsLaid, EndsLine}

pub front_front : (old tokens : List Token) (more : Answer) → front old (front tokens more) ≡ front (old ++ tokens) more
front_front old tokens (Ok more) = ap Ok (sym (append_assoc old tokens more))
front_front old tokens (Err fault) = refl

pub marks_same : (n : ℕ) (place : Place) (mark : Mark) → marks_at place (replicate n mark) ≡ replicate n (mark_at place mark)
marks_same zero place mark = refl
marks_same (suc n) place mark = ap (λ ms. mark_at place mark ∷ ms) (marks_same n place mark)

-- where tokens were added in front of the rest of the answer
pub laid_on : (old added new : List Token) (whole tail rest : Answer) (result : Result Bool SolveError) → whole ≡ front added tail → IsLaid (old ++ added) tail result new rest → IsLaid old whole result new rest
laid_on old added new whole tail rest (Ok true) is laid = ap (front old) is ∙ front_front old added tail ∙ laid
laid_on old added new whole tail rest (Ok false) is laid = ap (front old) is ∙ front_front old added tail ∙ laid
laid_on old added new whole tail rest (Err (Fault fault)) is laid = is ∙ ap (front added) laid
laid_on old added new whole tail rest (Err NoMemory) is laid = tt

pub line_laid : (first : Option Place) (place : Place) (layout now : Layout) (line : Line) (marks : List Mark) (behind : Layout → Answer) → first ≡ Some place → indented layout line.indent (ends_in_colon line.tokens) ≡ Ok (marks, now)
    → laid_onto first layout line behind ≡ front (marks_at place marks ++ line.tokens) (line_tail false now line.ending (behind now))
line_laid first place layout now line marks behind some entered = ap (λ f. laid_onto f layout line behind) some ∙ ap (λ r. line_onto line place r behind) entered

-- one line of the text
pub laid_turn : (old new : List Token) (layout now : Layout) (line : Line) (lines more : List Line) → lines ≡ line ∷ more
    → IsLaid old (laid_onto (first_place line.tokens line.ending) layout line (λ after. tokens_of after more)) (Ok true) new (tokens_of now more)
    → front old (tokens_of layout lines) ≡ front new (tokens_of now more)
unfolding tokens_of
laid_turn old new layout now line lines more is laid = ap (λ ls. front old (tokens_of layout ls)) is ∙ laid

pub laid_end : (old new : List Token) (layout now : Layout) (line : Line) (lines more : List Line) → lines ≡ line ∷ more
    → IsLaid old (laid_onto (first_place line.tokens line.ending) layout line (λ after. tokens_of after more)) (Ok false) new (tokens_of now more)
    → front old (tokens_of layout lines) ≡ Ok new
unfolding tokens_of
laid_end old new layout now line lines more is laid = ap (λ ls. front old (tokens_of layout ls)) is ∙ laid

pub laid_fault : (old new : List Token) (layout now : Layout) (line : Line) (lines more : List Line) (error : SolveError) (answer : Answer) (result : Result (Vec Token Global) SolveError) → result ≡ Err error → lines ≡ line ∷ more
    → IsLaid old (laid_onto (first_place line.tokens line.ending) layout line (λ after. tokens_of after more)) (Err error) new (tokens_of now more)
    → front old (tokens_of layout lines) ≡ answer → IsAnswer result answer
unfolding tokens_of
laid_fault old new layout now line lines more (Fault fault) answer result e is laid same = rw e (sym same ∙ ap (λ ls. front old (tokens_of layout ls)) is ∙ ap (front old) laid)
laid_fault old new layout now line lines more NoMemory answer result e is laid same = rw e tt

pub more_lines : (ending : Ending) (place : Place) (text : List ℕ) → EndsLine ending (Ok true) → lines_behind ending place text ≡ lines_of [] (pieces 0 place text)
more_lines (Ends end) place text follows = refl
more_lines (Stops end) place text follows = absurd follows
more_lines (Unclosed end) place text follows = absurd follows
more_lines (Breaks end fault) place text follows = absurd follows

pub goes_on : (ending : Ending) (text rest : List ℕ) → EndsLine ending (Ok true) → GoesOn ending text rest → length rest < length text
goes_on (Ends end) text rest follows less = less
goes_on (Stops end) text rest follows less = absurd follows
goes_on (Unclosed end) text rest follows less = absurd follows
goes_on (Breaks end fault) text rest follows less = absurd follows
