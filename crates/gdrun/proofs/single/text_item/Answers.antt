use Rattle.std.proofs.Common.{sym, ap, ◌∙◌, encode_utf8_all}
use Rattle.std.proofs.lemmas.Str.{encodes-chars}
use Rattle.gd_syntax.specs.FirstTree.{text_item}
use Rattle.gdrun.proofs.single.text_item.Goals as goal

pub returns : goal.returns
returns c = ap text_item (c.in_ok-from_str.ensures.ok ∙ sym (encodes-chars c.as_str.result.now c.as_str.utf8) ∙ ap encode_utf8_all c.as_str.ensures)
