use Rattle.std.proofs.Common.{◌∙◌, ap, List, ℕ}
use Rattle.std.proofs.lemmas.Str.Pattern.{contains_text}
use Rattle.std.proofs.lemmas.Bool.Decides.{same_from_decides}
use Rattle.variant_values.specs.Operations.{is_part}
use Rattle.container_calls.proofs.Parts.{part_found, found_part}
use Rattle.container_calls.proofs.operations.is_part.Goals as goal

pub returns : goal.returns
returns c =
    same_from_decides c.contains.result (is_part c.as_str-2.result.now c.as_str.result.now) (contains_text c.contains.result c.as_str-2.result.now c.as_str.result.now c.contains.ensures.cases) (part_found c.as_str-2.result.now c.as_str.result.now, found_part c.as_str-2.result.now c.as_str.result.now)
    ∙ ap (λ (x : List ℕ). is_part x c.as_str.result.now) c.as_str-2.ensures
    ∙ ap (λ (x : List ℕ). is_part c.args.part.now x) c.as_str.ensures
