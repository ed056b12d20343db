use Rattle.std.proofs.Common.{◌∙◌, sym, ap, ◌∷◌}
use Rattle.std.specs.Str.{chars}
use Rattle.std.proofs.lemmas.Str.{chars_past_char}
use Rattle.gd_header.proofs.cursor.split_first.Goals as goal

pub returns-clause-value : goal.returns-clause-value
returns-clause-value c =
    chars_past_char c.args.text.now c.next.new.self.rest.now c.in_ok-c.c c.utf8.text (sym c.chars-chars.ensures.rest ∙ c.in_ok-c.ensures.steps.0) ∙ ap (λ t. c.in_ok-c.c ∷ chars t) (sym c.as_str.ensures)
