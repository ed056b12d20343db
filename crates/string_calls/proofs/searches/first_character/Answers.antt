use Rattle.std.proofs.Common.{◌∙◌, ap, length, chars, Some}
use Rattle.string_calls.proofs.Characters.{characters_found, characters_missing}
use Rattle.string_calls.proofs.searches.first_character.Goals as goal

pub returns-in-Some-clause-place : goal.returns-in-Some-clause-place
returns-in-Some-clause-place c =
    ap Some (c.count_chars.ensures.chars ∙ ap (λ t. length (chars t)) c.split_at.ensures.front)
    ∙ characters_found c.args.text.now c.args.what.now c.utf8.text c.utf8.what c.in-Some.place c.in-Some.ensures.start c.in-Some.ensures.place

pub returns-in-None-clause-place : goal.returns-in-None-clause-place
returns-in-None-clause-place c = characters_missing c.args.text.now c.args.what.now c.utf8.text c.utf8.what c.in-None.ensures.place
