use Rattle.gd_syntax.proofs.Steps.{exit}
use Rattle.gd_syntax.specs.Reading.Then.{goes, halts}
use Rattle.gd_syntax.specs.Reading.Look.{looks}
use Rattle.gd_syntax.specs.Reading.{Read}
use Rattle.gd_syntax.proofs.MemberSteps.{head_base_none}
use Rattle.gd_parser.proofs.HeadSteps.{base_refuses, base_reads}
use Rattle.gd_parser.specs.Files.{anywhere}
use Rattle.std.proofs.Common.{ap, refl}
use Rattle.gd_parser.proofs.script.class_name_base.Goals as goal

pub returns-then-not-sees-clause-reads : goal.returns-then-not-sees-clause-reads
returns-then-not-sees-clause-reads c = head_base_none c.args.tokens.now anywhere c.args.based c.args.at _ (c.sees.ensures.no c.if-not-sees.true) refl

pub returns-then-based-clause-reads : goal.returns-then-based-clause-reads
returns-then-based-clause-reads c = rw (c.refuse.ensures) (looks (c.sees.ensures.yes c.if-not-sees.false) (base_refuses c.args.tokens.now anywhere c.args.based c.args.at _ c.if-based.true refl))

pub returns-in_err-tree-clause-reads : goal.returns-in_err-tree-clause-reads
returns-in_err-tree-clause-reads c = exit _ _ _ _ _ c.from_residual.ensures.1 (λ f h. looks (c.sees.ensures.yes c.if-not-sees.false) (base_reads c.args.tokens.now anywhere c.args.based c.args.at _ c.if-based.false (goes (ap (λ n. Read tt n) c.skip.ensures.next) (halts h)))) c.in_err-tree.ensures.reads

pub returns-clause-reads : goal.returns-clause-reads
returns-clause-reads c = looks (c.sees.ensures.yes c.if-not-sees.false) (base_reads c.args.tokens.now anywhere c.args.based c.args.at _ c.if-based.false (goes (ap (λ n. Read tt n) c.skip.ensures.next) (goes c.in_ok-tree.ensures.reads refl)))
