use Rattle.text_scene.proofs.Texts.{word_alike}
use Rattle.text_scene.proofs.characters.is_word.Goals as goal

pub returns : goal.returns
returns c = word_alike _ c.as_str.result.now c.args.word.now c.args.text.now c.as_str.utf8 c.utf8.word c.requires c.as_str.ensures c.eq.ensures
