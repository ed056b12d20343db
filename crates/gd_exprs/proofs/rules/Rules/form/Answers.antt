use Rattle.gd_exprs.specs.Forms.{inner}
use Rattle.gd_syntax.proofs.Steps.{answers_by}
use Rattle.gd_exprs.proofs.Parts.{form_cast, form_ternary, form_level}
use Rattle.gd_exprs.proofs.rules.Rules.form.Goals as goal

pub returns-then-level-eq-AS-clause-reads : goal.returns-then-level-eq-AS-clause-reads
returns-then-level-eq-AS-clause-reads g c = answers_by _ _ _ _ c.cast.result (λ x a. form_cast c.args.self.now.tokens.now c.args.self.now.room (inner c.args.self.now.tokens.now c.args.self.now.room) c.args.level c.args.start _ c.if-level-eq-AS.true a) (λ x a. form_cast c.args.self.now.tokens.now c.args.self.now.room (inner c.args.self.now.tokens.now c.args.self.now.room) c.args.level c.args.start _ c.if-level-eq-AS.true a) c.cast.ensures.reads

pub returns-then-level-eq-TERNARY-clause-reads : goal.returns-then-level-eq-TERNARY-clause-reads
returns-then-level-eq-TERNARY-clause-reads g c = answers_by _ _ _ _ c.ternary.result (λ x a. form_ternary c.args.self.now.tokens.now c.args.self.now.room (inner c.args.self.now.tokens.now c.args.self.now.room) c.args.level c.args.start _ c.if-level-eq-TERNARY.true a) (λ x a. form_ternary c.args.self.now.tokens.now c.args.self.now.room (inner c.args.self.now.tokens.now c.args.self.now.room) c.args.level c.args.start _ c.if-level-eq-TERNARY.true a) c.ternary.ensures.reads

pub returns-else-level-eq-TERNARY-clause-reads : goal.returns-else-level-eq-TERNARY-clause-reads
returns-else-level-eq-TERNARY-clause-reads g c = answers_by _ _ _ _ c.level.result (λ x a. form_level c.args.self.now.tokens.now c.args.self.now.room (inner c.args.self.now.tokens.now c.args.self.now.room) c.args.level c.args.start _ c.if-level-eq-AS.false c.if-level-eq-TERNARY.false a) (λ x a. form_level c.args.self.now.tokens.now c.args.self.now.room (inner c.args.self.now.tokens.now c.args.self.now.room) c.args.level c.args.start _ c.if-level-eq-AS.false c.if-level-eq-TERNARY.false a) c.level.ensures.reads
