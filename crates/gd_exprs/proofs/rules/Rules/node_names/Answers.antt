use Rattle.gd_exprs.specs.Forms.{inner}
use Rattle.gd_syntax.proofs.ExprSteps.{node_none}
use Rattle.gd_syntax.proofs.Levels.{levels-NodePath}
use Rattle.gd_syntax.proofs.Steps.{exit}
use Rattle.gd_syntax.specs.Levels.{levels}
use Rattle.gd_syntax.specs.Reading.Then.{goes, halts}
use Rattle.std.proofs.Common.{ap, arith, ◌≤◌}
use Rattle.gd_exprs.proofs.rules.Rules.node_names.Goals as goal

pub returns-in_err-name-clause-reads : goal.returns-in_err-name-clause-reads
returns-in_err-name-clause-reads g c = exit _ _ _ _ _ c.from_residual.ensures.1 (λ f h. node_none c.args.self.now.tokens.now c.args.self.now.room (inner c.args.self.now.tokens.now c.args.self.now.room) c.args.place _ _ c.requires.begins (halts h)) c.in_err-name.ensures.reads

pub returns-in_err-names-clause-reads : goal.returns-in_err-names-clause-reads
returns-in_err-names-clause-reads g c = exit _ _ _ _ _ c.from_residual-in_err-names.ensures.1 (λ f h. node_none c.args.self.now.tokens.now c.args.self.now.room (inner c.args.self.now.tokens.now c.args.self.now.room) c.args.place _ _ c.requires.begins (goes c.in_ok-name.ensures.reads (halts h))) (rw (c.in_ok-first.ensures) at c.in_err-names.ensures.reads)

pub returns-clause-reads : goal.returns-clause-reads
returns-clause-reads g c = node_none c.args.self.now.tokens.now c.args.self.now.room (inner c.args.self.now.tokens.now c.args.self.now.room) c.args.place _ _ c.requires.begins (goes c.in_ok-name.ensures.reads (goes (rw (c.in_ok-first.ensures) at c.in_ok-names.ensures.reads) (rw (c.in_ok-new.ensures))))

pub returns-clause-found : goal.returns-clause-found
returns-clause-found g c = let room : 1 ≤ c.args.self.now.room = c.requires.some in record { some = omega arith; levels = omega (arith, levels-NodePath c.args.place c.in_ok-names.names, ap levels c.in_ok-new.ensures, room); fits = omega (arith, room); after = omega (arith, c.in_ok-names.ensures.after, c.in_ok-name.ensures.next); within = c.in_ok-names.ensures.within }
