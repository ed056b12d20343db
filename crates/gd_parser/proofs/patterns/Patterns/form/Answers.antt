use Rattle.gd_parser.proofs.PatternParts.{finished_when}
use Rattle.gd_parser.specs.PatternForms.{inner}
use Rattle.gd_syntax.proofs.Steps.{exit}
use Rattle.gd_syntax.specs.PatternGrammar.{is_when}
use Rattle.gd_syntax.specs.Reading.Then.{goes, halts}
use Rattle.std.proofs.Common.{ap, sym, ◌∙◌}
use Rattle.gd_parser.proofs.patterns.Patterns.form.Goals as goal

pub returns-in_err-whole-clause-reads : goal.returns-in_err-whole-clause-reads
returns-in_err-whole-clause-reads g c = exit _ _ _ _ _ c.from_residual.ensures.1 (λ f h. halts h) c.in_err-whole.ensures.reads

pub returns-then-is_when-clause-reads : goal.returns-then-is_when-clause-reads
returns-then-is_when-clause-reads g c = rw (c.fault_at.ensures) (goes c.in_ok-whole.ensures.reads (finished_when c.args.self.now.tokens.now c.args.self.now.room (inner c.args.self.now.tokens.now c.args.self.now.free c.args.self.now.room) _ _ (ap is_when (sym c.kind_at.ensures) ∙ sym c.is_when.ensures ∙ c.if-is_when.true)))

pub returns-clause-reads : goal.returns-clause-reads
returns-clause-reads g c = goes c.in_ok-whole.ensures.reads (let is = ap is_when (sym c.kind_at.ensures) ∙ sym c.is_when.ensures ∙ c.if-is_when.false in rw is)
