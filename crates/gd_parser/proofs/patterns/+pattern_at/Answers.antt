use Rattle.gd_parser.proofs.PatternParts.{full_of, pattern_of}
use Rattle.gd_parser.specs.PatternForms.{full, pattern}
use Rattle.gd_syntax.proofs.Steps.{answers_by, fails_by}
use Rattle.gd_syntax.specs.Reading.{Fails}
use Rattle.std.proofs.Common.{arith, subst, sym, ℕ}
use Rattle.gd_parser.proofs.patterns.+pattern_at.Goals as goal

pub returns-then-room-eq0-clause-reads : goal.returns-then-room-eq0-clause-reads
returns-then-room-eq0-clause-reads t c = let P : ℕ → Type 0 = λ room. Fails c.full.result (pattern c.args.tokens.now c.args.free room c.args.at) in subst P (sym c.if-room-eq0.true) (fails_by (full c.args.tokens.now c.args.free c.args.at) (pattern c.args.tokens.now c.args.free 0 c.args.at) c.full.result (λ f h. full_of c.args.tokens.now c.args.free c.args.at _ h) c.full.ensures)

pub returns-clause-reads : goal.returns-clause-reads
returns-clause-reads t c = answers_by _ _ _ _ c.form.result (λ x a. pattern_of c.args.tokens.now c.args.free c.args.room c.args.at _ (omega arith) a) (λ x a. pattern_of c.args.tokens.now c.args.free c.args.room c.args.at _ (omega arith) a) c.form.ensures.reads
