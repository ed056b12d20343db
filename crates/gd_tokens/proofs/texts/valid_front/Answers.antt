use Rattle.std.proofs.Common.{◌∙◌, sym, ap, length, take, arith}
use Rattle.std.proofs.lemmas.List.{take_all}
use Rattle.std.proofs.lemmas.Str.{utf8_valid_len-IsUtf8}
use Rattle.gd_tokens.proofs.texts.valid_front.Goals as goal

pub returns-in-Ok : goal.returns-in-Ok
returns-in-Ok c =
    let bytes = c.args.bytes.now in
    c.in-Ok.ensures.cases.0 ∙ sym (take_all (length bytes) bytes (omega arith)) ∙ ap (λ n. take n bytes) (sym (utf8_valid_len-IsUtf8 bytes c.in-Ok.ensures.cases.1))
