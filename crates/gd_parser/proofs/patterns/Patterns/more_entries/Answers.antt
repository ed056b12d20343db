use Rattle.gd_parser.proofs.PatternParts.{push_any}
use Rattle.gd_parser.specs.PatternForms.{more_entries}
use Rattle.gd_syntax.proofs.Steps.{exit}
use Rattle.gd_syntax.specs.Reading.{Loop, Read}
use Rattle.gd_syntax.specs.Reading.Look.{looks}
use Rattle.gd_syntax.specs.Reading.Then.{goes, halts}
use Rattle.gd_syntax.specs.StatementGrammar.{entry_binds}
use Rattle.gd_syntax.specs.declared.tree.pattern.PatternEntry.{PatternEntry}
use Rattle.std.proofs.Common.{List, ap, arith, refl, subst, sym, ◌∙◌}
use Rattle.gd_parser.proofs.patterns.Patterns.more_entries.Goals as goal

pub returns-in_err-tree-clause-reads : goal.returns-in_err-tree-clause-reads
returns-in_err-tree-clause-reads g c = let is = (rw (c.kind_at.ensures, c.next_kind.ensures) at (sym c.goes_on.ensures ∙ c.items-test.true)) in exit _ _ _ _ _ c.from_residual-in_err-tree.ensures.1 (λ f h. c.items.invariant.reads _ (Loop.stop (looks is (goes (ap (λ n. Read tt n) c.skip.ensures.next) (halts h))))) c.in_err-tree.ensures.reads

pub items-preserved : goal.items-preserved
items-preserved g c = let is = (rw (c.kind_at.ensures, c.next_kind.ensures) at (sym c.goes_on.ensures ∙ c.items-test.true)) in record { reads = λ o rest. c.items.invariant.reads o (Loop.on (looks is (goes (ap (λ n. Read tt n) c.skip.ensures.next) (goes c.in_ok-tree.ensures.reads refl))) (let P : List PatternEntry → Type 0 = λ all. Loop (more_entries c.args.self.now.tokens.now c.args.self.now.free c.args.self.now.room) all c.in_ok-tree.field-0.at o in subst P c.in_ok-push-2.ensures.ok rest)); binds = rw (c.items.invariant.binds, c.in_ok-tree.ensures.found.binds, c.in_ok-push-2.ensures.ok) (sym (push_any entry_binds c.items.items c.in_ok-tree.field-0.tree)); after = omega (arith, c.in_ok-tree.ensures.found.after, c.skip.ensures.next, c.items.invariant.after); within = c.in_ok-tree.ensures.found.within }

pub returns-clause-reads : goal.returns-clause-reads
returns-clause-reads g c = let is = (rw (c.kind_at.ensures, c.next_kind.ensures) at (sym c.goes_on.ensures ∙ c.items-test.false)) in c.items.invariant.reads _ (Loop.last (looks is refl))
