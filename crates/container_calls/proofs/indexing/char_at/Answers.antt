use Rattle.std.proofs.lemmas.Iterator.{YieldsList-from_chars}
use Rattle.std.proofs.lemmas.Iterator.Consumers.{nth_from_yields_List}
use Rattle.std.proofs.Common.{◌≡◌, ◌∙◌, ap, refl, List, ℕ, Option, Some, None}
use Rattle.std.specs.Prelude.{slice_get, option_map}
use Rattle.std.specs.Str.{chars}
use Rattle.container_calls.proofs.indexing.char_at.Goals as goal

same_option : (o : Option ℕ) → o ≡ option_map (λ x. x) o
same_option None = refl
same_option (Some x) = refl

pub returns : goal.returns
returns c = same_option c.nth.result ∙ nth_from_yields_List c.nth.result c.nth.new.self c.args.at c.nth.ensures.ran (YieldsList-from_chars c.as_str.result.now c.as_str.utf8 c.chars.ensures.rest) ∙ ap (λ (bs : List ℕ). slice_get (chars bs) c.args.at) c.as_str.ensures
