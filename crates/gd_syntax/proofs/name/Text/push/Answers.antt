use Rattle.std.proofs.Common.{◌∙◌, ap, ◌++◌, ◌∷◌, [], if◌then◌else◌, is_ok, string_bytes}
use Rattle.std.proofs.lemmas.Str.{IsUtf8-string_bytes}
use Rattle.gd_syntax.proofs.Texts.{chars_pushed}
use Rattle.gd_syntax.proofs.name.Text.push.Goals as goal

pub returns : goal.returns
returns c =
    chars_pushed (is_ok c.push.result) (string_bytes c.self.inside.text) (string_bytes c.push.new.self) c.args.c (IsUtf8-string_bytes c.self.inside.text) c.ranges.c.0 c.push.ensures.bytes
    ∙ ap (λ t. if is_ok c.push.result then t ++ c.args.c ∷ [] else t) c.self.view_is
