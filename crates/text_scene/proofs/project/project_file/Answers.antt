use Rattle.std.proofs.Common.{refl}
use Rattle.gd_tokens.proofs.Files.{byte_behind, read_text}
use Rattle.text_scene.proofs.LineTurns.{read_file}
use Rattle.text_scene.proofs.project.project_file.Goals as goal

pub returns : goal.returns
returns c =
    let inside = read_text c.args.bytes.now c.valid_front-valid.result.now c.in_ok-characters.characters.items c.as_slice.result.now c.without_mark-text.result.now c.valid_front-valid.ensures c.in_ok-characters.ensures.value c.as_slice.ensures.value c.without_mark-text.ensures.value in
    let bad = byte_behind c.args.bytes.now c.valid_front-valid.result.now c.without_mark-text.result.now _ c.bad_byte-bad.result c.valid_front-valid.ensures refl inside c.bad_byte-bad.ensures in
    read_file c.args.bytes.now c.without_mark-text.result.now c.bad_byte-bad.result c.in_ok-draft.draft c.finish.result inside bad c.in_ok-draft.ensures c.finish.ensures
