use Rattle.gd_parser.proofs.BlockParts.{mark_differs}
use Rattle.gd_syntax.proofs.StatementSteps.{simple_assignment}
use Rattle.gd_syntax.proofs.Steps.{answers_by}
use Rattle.gd_syntax.specs.Reading.{Read}
use Rattle.gd_syntax.specs.Reading.Look.{looks}
use Rattle.gd_syntax.specs.Reading.Then.{goes}
use Rattle.std.proofs.Common.{Some, ap, refl, ◌∙◌}
use Rattle.gd_parser.proofs.statements.marked.Goals as goal

pub returns-in-Pass-clause-reads : goal.returns-in-Pass-clause-reads
returns-in-Pass-clause-reads c = rw (c.place_at-place.ensures, c.skip.ensures.next) (looks (c.requires.begins ∙ ap Some c.in-Pass.is) (goes refl refl))

pub returns-in-Break-clause-reads : goal.returns-in-Break-clause-reads
returns-in-Break-clause-reads c = rw (c.place_at-place.ensures, c.skip-in-Break.ensures.next) (looks (c.requires.begins ∙ ap Some c.in-Break.is) (goes refl refl))

pub returns-in-Continue-clause-reads : goal.returns-in-Continue-clause-reads
returns-in-Continue-clause-reads c = rw (c.place_at-place.ensures, c.skip-in-Continue.ensures.next) (looks (c.requires.begins ∙ ap Some c.in-Continue.is) (goes refl refl))

pub returns-in-Return-clause-reads : goal.returns-in-Return-clause-reads
returns-in-Return-clause-reads c = answers_by _ _ _ _ c.returned.result (λ x a. looks (c.requires.begins ∙ ap Some c.in-Return.is) (goes (ap (λ n. Read tt n) c.skip-in-Return.ensures.next) a)) (λ x a. looks (c.requires.begins ∙ ap Some c.in-Return.is) (goes (ap (λ n. Read tt n) c.skip-in-Return.ensures.next) a)) (rw (c.place_at-place.ensures) at c.returned.ensures.reads)

pub returns-in-Var-clause-reads : goal.returns-in-Var-clause-reads
returns-in-Var-clause-reads c = answers_by _ _ _ _ c.local_var.result (λ x a. looks (c.requires.begins ∙ ap Some c.in-Var.is) a) (λ x a. looks (c.requires.begins ∙ ap Some c.in-Var.is) a) (rw (c.place_at-place.ensures, c.new.ensures) at c.local_var.ensures.reads)

pub returns-in-At-clause-reads : goal.returns-in-At-clause-reads
returns-in-At-clause-reads c = answers_by _ _ _ _ c.annotated.result (λ x a. looks (c.requires.begins ∙ ap Some c.in-At.is) a) (λ x a. looks (c.requires.begins ∙ ap Some c.in-At.is) a) (rw (c.place_at-place.ensures) at c.annotated.ensures.reads)

pub returns-in-Const-clause-reads : goal.returns-in-Const-clause-reads
returns-in-Const-clause-reads c = answers_by _ _ _ _ c.local_const.result (λ x a. looks (c.requires.begins ∙ ap Some c.in-Const.is) a) (λ x a. looks (c.requires.begins ∙ ap Some c.in-Const.is) a) (rw (c.place_at-place.ensures) at c.local_const.ensures.reads)

pub returns-in-Assert-clause-reads : goal.returns-in-Assert-clause-reads
returns-in-Assert-clause-reads c = answers_by _ _ _ _ c.assertion.result (λ x a. looks (c.requires.begins ∙ ap Some c.in-Assert.is) a) (λ x a. looks (c.requires.begins ∙ ap Some c.in-Assert.is) a) (rw (c.place_at-place.ensures) at c.assertion.ensures.reads)

pub returns-in_default-clause-reads : goal.returns-in_default-clause-reads
returns-in_default-clause-reads c = answers_by _ _ _ _ c.assignment.result (λ x a. simple_assignment c.args.tokens.now _ c.args.at _ (mark_differs _ _ _ c.requires.begins c.in_default.not-Pass) (mark_differs _ _ _ c.requires.begins c.in_default.not-Break) (mark_differs _ _ _ c.requires.begins c.in_default.not-Continue) (mark_differs _ _ _ c.requires.begins c.in_default.not-Return) (mark_differs _ _ _ c.requires.begins c.in_default.not-Var) (mark_differs _ _ _ c.requires.begins c.in_default.not-At) (mark_differs _ _ _ c.requires.begins c.in_default.not-Const) (mark_differs _ _ _ c.requires.begins c.in_default.not-Assert) a) (λ x a. simple_assignment c.args.tokens.now _ c.args.at _ (mark_differs _ _ _ c.requires.begins c.in_default.not-Pass) (mark_differs _ _ _ c.requires.begins c.in_default.not-Break) (mark_differs _ _ _ c.requires.begins c.in_default.not-Continue) (mark_differs _ _ _ c.requires.begins c.in_default.not-Return) (mark_differs _ _ _ c.requires.begins c.in_default.not-Var) (mark_differs _ _ _ c.requires.begins c.in_default.not-At) (mark_differs _ _ _ c.requires.begins c.in_default.not-Const) (mark_differs _ _ _ c.requires.begins c.in_default.not-Assert) a) (rw (c.place_at-place.ensures) at c.assignment.ensures.reads)
