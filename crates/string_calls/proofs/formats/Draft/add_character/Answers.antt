use Rattle.std.proofs.Common.{◌∙◌, Some, ap, sym}
use Rattle.string_calls.specs.Directives.{directive_of}
use Rattle.variant_values.specs.Formats.{character_in}
use Rattle.string_calls.proofs.Drafting.{fills_padded}
use Rattle.string_calls.proofs.formats.Draft.add_character.Goals as goal

pub returns-in_ok-add_padded-in-Some : goal.returns-in_ok-add_padded-in-Some
returns-in_ok-add_padded-in-Some c =
    fills_padded c.args.self.now c.add_padded.new.self (directive_of c.args.d.now) (character_in c.args.v.now) c.as_str.result.now (sym c.in_ok-text.ensures ∙ c.in-Some.is ∙ ap Some (sym c.as_str.ensures)) c.in_ok-add_padded-in-Some.ensures
