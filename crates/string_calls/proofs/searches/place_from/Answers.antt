use Rattle.std.proofs.Common.{arith, Some, None}
use Rattle.string_calls.proofs.Characters.{place_behind}
use Rattle.string_calls.proofs.Cuts.{place_within}
use Rattle.string_calls.proofs.searches.place_from.Goals as goal

pub returns-in-Some-clause-place : goal.returns-in-Some-clause-place
returns-in-Some-clause-place c = place_behind c.args.what.now c.args.text.now c.split_chars.result.1.now c.args.from c.utf8.text c.split_chars.ensures.back (omega (arith, c.count_chars.ensures.chars)) (Some c.in-Some.place) c.in-Some.ensures.place

pub returns-in-Some-clause-within : goal.returns-in-Some-clause-within
returns-in-Some-clause-within c = place_within c.args.text.now c.split_chars.result.1.now c.args.from c.in-Some.place c.utf8.text c.split_chars.ensures.back (omega (arith, c.count_chars.ensures.chars)) c.in-Some.ensures.within

pub returns-in-None-clause-place : goal.returns-in-None-clause-place
returns-in-None-clause-place c = place_behind c.args.what.now c.args.text.now c.split_chars.result.1.now c.args.from c.utf8.text c.split_chars.ensures.back (omega (arith, c.count_chars.ensures.chars)) None c.in-None.ensures.place
