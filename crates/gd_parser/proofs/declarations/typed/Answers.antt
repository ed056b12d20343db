use Rattle.gd_syntax.proofs.Steps.{exit}
use Rattle.gd_syntax.specs.Reading.Then.{goes, halts}
use Rattle.gd_syntax.proofs.DeclarationSteps.{declared_typed}
use Rattle.std.proofs.Common.{refl}
use Rattle.gd_parser.proofs.declarations.typed.Goals as goal

pub returns-in_err-kind-clause-reads : goal.returns-in_err-kind-clause-reads
returns-in_err-kind-clause-reads c = exit _ _ _ _ _ c.from_residual.ensures.1 (λ f h. declared_typed c.args.tokens.now c.args.sought c.args.at _ c.requires.typed (halts h)) c.in_err-kind.ensures.reads

pub returns-in_err-value-clause-reads : goal.returns-in_err-value-clause-reads
returns-in_err-value-clause-reads c = exit _ _ _ _ _ c.from_residual-in_err-value.ensures.1 (λ f h. declared_typed c.args.tokens.now c.args.sought c.args.at _ c.requires.typed (goes c.in_ok-kind.ensures.reads (halts h))) c.in_err-value.ensures.reads

pub returns-clause-reads : goal.returns-clause-reads
returns-clause-reads c = declared_typed c.args.tokens.now c.args.sought c.args.at _ c.requires.typed (goes c.in_ok-kind.ensures.reads (goes c.in_ok-value.ensures.reads refl))
