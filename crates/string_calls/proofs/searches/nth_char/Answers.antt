use Rattle.std.proofs.Common.{◌∙◌, ap, chars, slice_get}
use Rattle.string_calls.proofs.Cuts.{char_behind}
use Rattle.string_calls.proofs.searches.nth_char.Goals as goal

pub returns : goal.returns
returns c = c.next.ensures.steps.2 ∙ ap (λ t. slice_get (chars t) 0) c.chars.ensures.rest ∙ char_behind c.args.text.now c.split_chars.result.1.now c.args.n c.utf8.text c.split_chars.ensures.back
