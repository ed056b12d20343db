use Rattle.gd_parser.specs.PatternForms.{inner}
use Rattle.gd_syntax.proofs.PatternSteps.{value_none}
use Rattle.gd_syntax.proofs.Steps.{exit}
use Rattle.gd_syntax.specs.Reading.{Read}
use Rattle.gd_syntax.specs.Reading.Look.{looks}
use Rattle.gd_syntax.specs.Reading.Then.{goes, halts}
use Rattle.std.proofs.Common.{ap, refl}
use Rattle.gd_parser.proofs.patterns.Patterns.entry.Goals as goal

pub returns-in_err-key-clause-reads : goal.returns-in_err-key-clause-reads
returns-in_err-key-clause-reads g c = exit _ _ _ _ _ c.from_residual.ensures.1 (λ f h. halts h) c.in_err-key.ensures.reads

pub returns-then-not-sees-clause-reads : goal.returns-then-not-sees-clause-reads
returns-then-not-sees-clause-reads g c = goes c.in_ok-key.ensures.reads (goes (value_none c.args.self.now.tokens.now c.args.self.now.room (inner c.args.self.now.tokens.now c.args.self.now.free c.args.self.now.room) _ (c.sees.ensures.no c.if-not-sees.true)) (rw (c.place_at-place.ensures)))

pub returns-in_err-tree-clause-reads : goal.returns-in_err-tree-clause-reads
returns-in_err-tree-clause-reads g c = exit _ _ _ _ _ c.from_residual-in_err-tree.ensures.1 (λ f h. goes c.in_ok-key.ensures.reads (halts (looks (c.sees.ensures.yes c.if-not-sees.false) (goes (ap (λ n. Read tt n) c.skip.ensures.next) (halts h))))) c.in_err-tree.ensures.reads

pub returns-clause-reads : goal.returns-clause-reads
returns-clause-reads g c = goes c.in_ok-key.ensures.reads (goes (looks (c.sees.ensures.yes c.if-not-sees.false) (goes (ap (λ n. Read tt n) c.skip.ensures.next) (goes c.in_ok-tree.ensures.reads refl))) (rw (c.place_at-place.ensures, c.in_ok-value.ensures)))
