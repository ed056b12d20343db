use Rattle.gdrun.proofs.Files.{not_taken}
use Rattle.gdrun.proofs.file.read_tokens.Goals as goal

pub returns-in_err-file : goal.returns-in_err-file
returns-in_err-file c = not_taken c.args.header_end c.args.tokens.now c.in_ok-tree.tree c.in_ok-tree.ensures.reads.0 c.in_ok-tree.ensures.reads.1 _ _ c.from_residual-in_err-file.ensures.1 c.in_err-file.ensures
