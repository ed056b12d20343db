use Rattle.gd_syntax.proofs.Steps.{answers_by}
use Rattle.gd_syntax.specs.Reading.Look.{looks}
use Rattle.gd_syntax.specs.TokenReading.{place_at}
use Rattle.gd_parser.proofs.Others.{plain_annotated}
use Rattle.gd_parser.proofs.classes.plain_member.Goals as goal

pub returns-then-sees-clause-reads : goal.returns-then-sees-clause-reads
returns-then-sees-clause-reads c = answers_by _ _ _ _ c.pass_line.result (λ x a. looks (c.sees.ensures.yes c.if-sees.true) a) (λ x a. looks (c.sees.ensures.yes c.if-sees.true) a) c.pass_line.ensures.reads

pub returns-then-sees-2-clause-reads : goal.returns-then-sees-2-clause-reads
returns-then-sees-2-clause-reads c = answers_by _ _ _ _ c.const_line.result (λ x a. looks (c.sees-2.ensures.yes c.if-sees-2.true) a) (λ x a. looks (c.sees-2.ensures.yes c.if-sees-2.true) a) c.const_line.ensures.reads

pub returns-then-sees-3-clause-reads : goal.returns-then-sees-3-clause-reads
returns-then-sees-3-clause-reads c = answers_by _ _ _ _ c.enum_line.result (λ x a. looks (c.sees-3.ensures.yes c.if-sees-3.true) a) (λ x a. looks (c.sees-3.ensures.yes c.if-sees-3.true) a) c.enum_line.ensures.reads

pub returns-then-sees-4-clause-reads : goal.returns-then-sees-4-clause-reads
returns-then-sees-4-clause-reads c = answers_by _ _ _ _ c.signal_line.result (λ x a. looks (c.sees-4.ensures.yes c.if-sees-4.true) a) (λ x a. looks (c.sees-4.ensures.yes c.if-sees-4.true) a) c.signal_line.ensures.reads

pub returns-clause-reads : goal.returns-clause-reads
returns-clause-reads c = answers_by _ _ _ _ c.annotated_member.result (λ x a. plain_annotated c.args.tokens.now (place_at c.args.tokens.now c.args.at) c.args.at _ (c.sees.ensures.no c.if-sees.false) (c.sees-2.ensures.no c.if-sees-2.false) (c.sees-3.ensures.no c.if-sees-3.false) (c.sees-4.ensures.no c.if-sees-4.false) a) (λ x a. plain_annotated c.args.tokens.now (place_at c.args.tokens.now c.args.at) c.args.at _ (c.sees.ensures.no c.if-sees.false) (c.sees-2.ensures.no c.if-sees-2.false) (c.sees-3.ensures.no c.if-sees-3.false) (c.sees-4.ensures.no c.if-sees-4.false) a) c.annotated_member.ensures.reads
