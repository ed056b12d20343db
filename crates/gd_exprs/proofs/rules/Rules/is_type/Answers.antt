use Rattle.gd_exprs.specs.Forms.{inner}
use Rattle.gd_syntax.proofs.ExprSteps.{kind_test_none}
use Rattle.gd_syntax.proofs.Levels.{levels-Is}
use Rattle.gd_syntax.proofs.Steps.{exit}
use Rattle.gd_syntax.specs.Levels.{levels}
use Rattle.gd_syntax.specs.Reading.Then.{goes, halts}
use Rattle.std.proofs.Common.{ap, arith, ◌≤◌}
use Rattle.gd_exprs.proofs.rules.Rules.is_type.Goals as goal

pub returns-in_err-kind-clause-reads : goal.returns-in_err-kind-clause-reads
returns-in_err-kind-clause-reads g c = exit _ _ _ _ _ c.from_residual.ensures.1 (λ f h. kind_test_none c.args.self.now.tokens.now c.args.self.now.room (inner c.args.self.now.tokens.now c.args.self.now.room) c.args.place c.args.left.tree _ _ c.requires.begins (halts h)) c.in_err-kind.ensures.reads

pub returns-clause-reads : goal.returns-clause-reads
returns-clause-reads g c = kind_test_none c.args.self.now.tokens.now c.args.self.now.room (inner c.args.self.now.tokens.now c.args.self.now.room) c.args.place c.args.left.tree _ _ c.requires.begins (goes c.in_ok-kind.ensures.reads (rw (c.in_ok-new.ensures)))

pub returns-clause-found : goal.returns-clause-found
returns-clause-found g c = let room : 1 ≤ c.args.self.now.room = c.requires.some in record { some = omega arith; levels = omega (arith, levels-Is c.args.place c.args.left.tree c.in_ok-kind.kind, ap levels c.in_ok-new.ensures, room, c.requires.levels); fits = omega (arith, room, c.requires.room); after = omega (arith, c.in_ok-kind.ensures.after); within = c.in_ok-kind.ensures.within }
