use Rattle.header_laws.proofs.HeadersOfTrees.{names_agree}
use Rattle.header_laws.proofs.the_header_has_the_name_of_the_heads.Goals as goal

pub returns : goal.returns
returns c = names_agree c.args.text.now
