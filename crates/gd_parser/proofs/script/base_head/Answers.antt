use Rattle.gd_syntax.proofs.Steps.{exit}
use Rattle.gd_syntax.specs.Reading.Then.{goes, halts}
use Rattle.gd_syntax.specs.Reading.{Read, On}
use Rattle.gd_syntax.specs.TokenReading.{place_at}
use Rattle.gd_parser.proofs.HeadSteps.{extends_refuses, extends_reads}
use Rattle.gd_parser.specs.Files.{anywhere, heads_of}
use Rattle.gd_syntax.specs.ScriptGrammar.{Heads}
use Rattle.std.proofs.Common.{ap, refl, sym, true, ◌∙◌}
use Rattle.gd_parser.proofs.script.base_head.Goals as goal

pub returns-then-refuses_base-clause-reads : goal.returns-then-refuses_base-clause-reads
returns-then-refuses_base-clause-reads c = rw (c.refuse.ensures) (extends_refuses c.args.tokens.now anywhere (heads_of c.args.sofar) (place_at c.args.tokens.now c.args.at) true c.args.at _ (sym c.refuses_base.ensures ∙ c.if-refuses_base.true) refl)

pub returns-in_err-tree-clause-reads : goal.returns-in_err-tree-clause-reads
returns-in_err-tree-clause-reads c = exit _ _ _ _ _ c.from_residual.ensures.1 (λ f h. extends_reads c.args.tokens.now anywhere (heads_of c.args.sofar) (place_at c.args.tokens.now c.args.at) true c.args.at _ (sym c.refuses_base.ensures ∙ c.if-refuses_base.false) (halts h)) c.in_err-tree.ensures.reads

pub returns-clause-reads : goal.returns-clause-reads
returns-clause-reads c = extends_reads c.args.tokens.now anywhere (heads_of c.args.sofar) (place_at c.args.tokens.now c.args.at) true c.args.at _ (sym c.refuses_base.ensures ∙ c.if-refuses_base.false) (goes c.in_ok-tree.ensures.reads (ap (λ (x : Heads). Read (On x) c.in_ok-tree.next) c.in_ok-more.ensures.heads))
