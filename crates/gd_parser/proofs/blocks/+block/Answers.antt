use Rattle.gd_parser.proofs.BlockParts.{block_of}
use Rattle.gd_syntax.proofs.StatementSteps.{block_full}
use Rattle.gd_syntax.proofs.Steps.{answers_by}
use Rattle.gd_syntax.specs.Reading.{Fails}
use Rattle.gd_syntax.specs.StatementGrammar.{block}
use Rattle.std.proofs.Common.{arith, refl, subst, sym, ℕ}
use Rattle.gd_parser.proofs.blocks.+block.Goals as goal

pub returns-then-room-eq0-clause-reads : goal.returns-then-room-eq0-clause-reads
returns-then-room-eq0-clause-reads t c = let P : ℕ → Type 0 = λ room. Fails c.fault_at.result (block c.args.tokens.now room c.args.at) in subst P (sym c.if-room-eq0.true) (rw (c.fault_at.ensures) (block_full c.args.tokens.now c.args.at _ refl))

pub returns-clause-reads : goal.returns-clause-reads
returns-clause-reads t c = answers_by _ _ _ _ c.form.result (λ x a. block_of c.args.tokens.now c.args.room c.args.at _ (omega arith) a) (λ x a. block_of c.args.tokens.now c.args.room c.args.at _ (omega arith) a) (c.form.ensures.reads)
