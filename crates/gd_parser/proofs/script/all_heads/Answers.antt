use Rattle.gd_syntax.proofs.Steps.{exit}
use Rattle.gd_syntax.specs.Reading.{Loop}
use Rattle.gd_syntax.proofs.MemberSteps.{head_none}
use Rattle.gd_syntax.specs.ScriptGrammar.{in_header}
use Rattle.std.proofs.Common.{refl}
use Rattle.gd_parser.proofs.script.all_heads.Goals as goal

pub returns-in_err-more-clause-reads : goal.returns-in_err-more-clause-reads
returns-in_err-more-clause-reads c = exit _ _ _ _ _ c.from_residual.ensures.1 (λ f h. c.heads.invariant.reads _ (Loop.stop h)) c.in_err-more.ensures.reads

pub heads-preserved : goal.heads-preserved
heads-preserved c = record { reads = λ o rest. c.heads.invariant.reads o (Loop.on c.in_ok-more.ensures.reads rest); flags = c.in_ok-more.ensures.flags; within = c.in_ok-more.ensures.within }

pub returns-clause-reads : goal.returns-clause-reads
returns-clause-reads c = c.heads.invariant.reads _ (Loop.last (head_none c.args.tokens.now (in_header c.args.tokens.now c.args.header_end) _ _ _ _ _ (c.begins_head.ensures.no_annotation c.heads-test.false) (c.begins_head.ensures.no_name c.heads-test.false) (c.begins_head.ensures.no_base c.heads-test.false) refl))
