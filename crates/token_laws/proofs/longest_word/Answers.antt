use Rattle.unicode_ident.specs.Ident.{is_xid_continue}
use Rattle.token_laws.proofs.Longest.{longest_run}
use Rattle.token_laws.proofs.longest_word.Goals as goal

pub returns : goal.returns
returns c = longest_run is_xid_continue c.args.text.now
