use Rattle.std.proofs.Common.{◌∙◌, sym, string_bytes}
use Rattle.std.proofs.lemmas.Str.{IsUtf8-string_bytes}
use Rattle.gd_syntax.proofs.Texts.{chars_alike}
use Rattle.gd_syntax.proofs.name.TextPartialEq.eq.Goals as goal

pub returns : goal.returns
returns c = rw (sym c.self.view_is, sym c.other.view_is)
    (c.eq.ensures ∙ chars_alike (string_bytes c.self.inside.text) (string_bytes c.other.inside.text) (IsUtf8-string_bytes c.self.inside.text) (IsUtf8-string_bytes c.other.inside.text))
