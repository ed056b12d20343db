use Rattle.gd_syntax.proofs.Steps.{exit}
use Rattle.gd_syntax.specs.Reading.Then.{goes, halts}
use Rattle.gd_syntax.specs.Reading.Look.{looks}
use Rattle.gd_syntax.specs.Reading.{Read}
use Rattle.gd_parser.proofs.Others.{static_refused, static_read}
use Rattle.std.proofs.Common.{ap, refl, sym, ◌∙◌}
use Rattle.gd_parser.proofs.members.static_func.Goals as goal

pub returns-then-has_field_annotation-clause-reads : goal.returns-then-has_field_annotation-clause-reads
returns-then-has_field_annotation-clause-reads c = rw (c.refuse.ensures) (looks c.requires.begins (static_refused c.args.tokens.now c.args.place c.args.before c.args.at _ (sym c.has_field_annotation.ensures ∙ c.if-has_field_annotation.true) refl))

pub returns-in_err-name-clause-reads : goal.returns-in_err-name-clause-reads
returns-in_err-name-clause-reads c = exit _ _ _ _ _ c.from_residual.ensures.1 (λ f h. looks c.requires.begins (static_read c.args.tokens.now c.args.place c.args.before c.args.at _ (sym c.has_field_annotation.ensures ∙ c.if-has_field_annotation.false) (goes (ap (λ n. Read tt n) c.skip.ensures.next) (halts h)))) c.in_err-name.ensures.reads

pub returns-in_err-tree-clause-reads : goal.returns-in_err-tree-clause-reads
returns-in_err-tree-clause-reads c = exit _ _ _ _ _ c.from_residual-in_err-tree.ensures.1 (λ f h. looks c.requires.begins (static_read c.args.tokens.now c.args.place c.args.before c.args.at _ (sym c.has_field_annotation.ensures ∙ c.if-has_field_annotation.false) (goes (ap (λ n. Read tt n) c.skip.ensures.next) (goes c.in_ok-name.ensures.reads (halts h))))) c.in_err-tree.ensures.reads

pub returns-clause-reads : goal.returns-clause-reads
returns-clause-reads c = looks c.requires.begins (static_read c.args.tokens.now c.args.place c.args.before c.args.at _ (sym c.has_field_annotation.ensures ∙ c.if-has_field_annotation.false) (goes (ap (λ n. Read tt n) c.skip.ensures.next) (goes c.in_ok-name.ensures.reads (goes c.in_ok-tree.ensures.reads refl))))
