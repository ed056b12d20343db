use Rattle.token_laws.proofs.HeaderWalks.{header_name}
use Rattle.token_laws.proofs.the_header_has_the_first_name.Goals as goal

pub returns : goal.returns
returns c = header_name c.args.text.now
