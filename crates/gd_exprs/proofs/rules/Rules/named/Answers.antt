use Rattle.gd_exprs.proofs.Parts.{named_plain, named_refused}
use Rattle.gd_exprs.specs.Forms.{inner}
use Rattle.gd_syntax.proofs.Levels.{levels-Name}
use Rattle.gd_syntax.proofs.Steps.{answers_by}
use Rattle.gd_syntax.specs.Reading.Look.{looks}
use Rattle.gd_syntax.specs.TokenReading.{place_at}
use Rattle.std.proofs.Common.{refl, sym, ◌∙◌}
use Rattle.gd_exprs.proofs.rules.Rules.named.Goals as goal

pub leaf-requires-clause-leaf : goal.leaf-requires-clause-leaf
leaf-requires-clause-leaf g c = levels-Name c.place_at-place.result c.in_ok-name.name

pub returns-then-is_plain-clause-reads : goal.returns-then-is_plain-clause-reads
returns-then-is_plain-clause-reads g c = let h = rw (c.in_ok-name.ensures.cases, c.place_at-place.ensures) at c.leaf.ensures.reads in answers_by _ _ _ _ c.leaf.result (λ x a. looks c.requires.begins (named_plain c.args.self.now.tokens.now c.args.self.now.room (inner c.args.self.now.tokens.now c.args.self.now.room) (place_at c.args.self.now.tokens.now c.args.at) c.args.name.now c.args.at _ (sym c.is_plain.ensures ∙ c.if-is_plain.true) a)) (λ x a. looks c.requires.begins (named_plain c.args.self.now.tokens.now c.args.self.now.room (inner c.args.self.now.tokens.now c.args.self.now.room) (place_at c.args.self.now.tokens.now c.args.at) c.args.name.now c.args.at _ (sym c.is_plain.ensures ∙ c.if-is_plain.true) a)) h

pub returns-clause-reads : goal.returns-clause-reads
returns-clause-reads g c = rw (c.refuse.ensures) (looks c.requires.begins (named_refused c.args.self.now.tokens.now c.args.self.now.room (inner c.args.self.now.tokens.now c.args.self.now.room) (place_at c.args.self.now.tokens.now c.args.at) c.args.name.now c.args.at _ (sym c.is_plain.ensures ∙ c.if-is_plain.false) (sym c.is_load.ensures ∙ c.if-is_load.false) refl))
