use Rattle.std.proofs.lemmas.Str.Pattern.{ends_text}
use Rattle.string_calls.proofs.searches.ends_with.Goals as goal

pub returns : goal.returns
returns c = ends_text c.ends_with.result c.args.what.now c.args.text.now c.ends_with.ensures.cases
