use Rattle.gd_syntax.proofs.Steps.{exit}
use Rattle.gd_syntax.specs.Reading.Then.{goes, halts}
use Rattle.gd_syntax.specs.Reading.Look.{looks}
use Rattle.gd_syntax.specs.Reading.{Read, On}
use Rattle.gd_syntax.specs.TokenReading.{place_at}
use Rattle.gd_parser.proofs.HeadSteps.{name_refuses, name_reads}
use Rattle.gd_parser.specs.Files.{heads_of}
use Rattle.gd_syntax.specs.ScriptGrammar.{Heads, in_header}
use Rattle.std.proofs.Common.{ap, refl, sym, ◌∙◌}
use Rattle.gd_parser.proofs.script.name_head.Goals as goal

pub returns-then-refuses_name-clause-reads : goal.returns-then-refuses_name-clause-reads
returns-then-refuses_name-clause-reads c = rw (c.refuse.ensures) (looks c.requires.begins (name_refuses c.args.tokens.now (in_header c.args.tokens.now c.args.header_end) (heads_of c.args.sofar) (place_at c.args.tokens.now c.args.at) ((in_header c.args.tokens.now c.args.header_end) c.args.at) c.args.at _ (sym c.refuses_name.ensures ∙ c.if-refuses_name.true) refl))

pub returns-in_err-tree-clause-reads : goal.returns-in_err-tree-clause-reads
returns-in_err-tree-clause-reads c = exit _ _ _ _ _ c.from_residual.ensures.1 (λ f h. looks c.requires.begins (name_reads c.args.tokens.now (in_header c.args.tokens.now c.args.header_end) (heads_of c.args.sofar) (place_at c.args.tokens.now c.args.at) ((in_header c.args.tokens.now c.args.header_end) c.args.at) c.args.at _ (sym c.refuses_name.ensures ∙ c.if-refuses_name.false) (halts h))) (rw (c.is_based-based.ensures) at c.in_err-tree.ensures.reads)

pub returns-clause-reads : goal.returns-clause-reads
returns-clause-reads c = looks c.requires.begins (name_reads c.args.tokens.now (in_header c.args.tokens.now c.args.header_end) (heads_of c.args.sofar) (place_at c.args.tokens.now c.args.at) ((in_header c.args.tokens.now c.args.header_end) c.args.at) c.args.at _ (sym c.refuses_name.ensures ∙ c.if-refuses_name.false) (goes (rw (c.is_based-based.ensures) at c.in_ok-tree.ensures.reads) (ap (λ (x : Heads). Read (On x) c.in_ok-tree.next) c.in_ok-more.ensures.heads)))
