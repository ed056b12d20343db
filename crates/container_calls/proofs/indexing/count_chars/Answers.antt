use Rattle.std.proofs.lemmas.Iterator.{YieldsList-from_chars}
use Rattle.std.proofs.lemmas.Iterator.Consumers.{count_from_yields_List}
use Rattle.std.proofs.Common.{◌∙◌, ap, List, ℕ, length}
use Rattle.std.specs.Str.{chars}
use Rattle.container_calls.proofs.indexing.count_chars.Goals as goal

pub returns : goal.returns
returns c = count_from_yields_List c.chars.result c.count.result c.count.ensures.ran (YieldsList-from_chars c.as_str.result.now c.as_str.utf8 c.chars.ensures.rest) ∙ ap (λ (bs : List ℕ). length (chars bs)) c.as_str.ensures
