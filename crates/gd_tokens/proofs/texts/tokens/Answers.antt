use Rattle.std.proofs.Common.{refl}
use Rattle.gd_tokens.proofs.Files.{byte_behind, read_text, whole_file}
use Rattle.gd_tokens.proofs.texts.tokens.Goals as goal

pub returns-clause-answer : goal.returns-clause-answer
returns-clause-answer c =
    let inside = read_text c.args.text.now c.valid_front-valid.result.now c.in_ok-characters.characters.items c.as_slice.result.now c.without_mark-inside.result.now c.valid_front-valid.ensures c.in_ok-characters.ensures.value c.as_slice.ensures.value c.without_mark-inside.ensures.value in
    let bad = byte_behind c.args.text.now c.valid_front-valid.result.now c.without_mark-inside.result.now _ c.bad_byte-bad.result c.valid_front-valid.ensures refl inside c.bad_byte-bad.ensures in
    whole_file c.args.text.now c.without_mark-inside.result.now c.bad_byte-bad.result c.list_tokens.result inside bad c.list_tokens.ensures.answer
