use Rattle.std.proofs.Common.{◌≡◌, ℕ, ◌+◌, List, length, take, drop, ap, sym}
use Rattle.std.specs.Prelude.{option_map}
use Rattle.string_calls.proofs.Places.{parts_next, parts_last}
use Rattle.string_calls.proofs.laws.a_split_cuts_at_the_first_place.Goals as goal

pub returns-clause-cut : goal.returns-clause-cut
returns-clause-cut c = λ by text n some is. parts_next by text (take n text) (drop (n + length by) text) some (sym (ap (λ o. option_map (λ (place : ℕ). (take place text, drop (place + length by) text)) o) is))

pub returns-clause-whole : goal.returns-clause-whole
returns-clause-whole c = λ by text is. parts_last by text (sym (ap (λ o. option_map (λ (place : ℕ). (take place text, drop (place + length by) text)) o) is))
