use Rattle.std.proofs.Common.{arith}
use Rattle.ref_objects.proofs.Entering.{absent_now, key_in, key_held, value_in, value_held, taken_now, weight_taken}
use Rattle.ref_objects.proofs.dicts.drop_entry.Goals as goal

pub lower-requires-clause-within : goal.lower-requires-clause-within
lower-requires-clause-within c = key_in c.args.slots.now.items c.args.x c.args.total c.requires.kept c.requires.within c.requires.dict c.args.key.now c.take_entry.new.slots.items c.in-Some.before c.in-Some.ensures.before c.in-Some.ensures.put c.key_place.result c.key_place.ensures c.requires.key

pub lower-requires-clause-held : goal.lower-requires-clause-held
lower-requires-clause-held c = key_held c.args.slots.now.items c.args.x c.args.total c.requires.kept c.requires.within c.requires.dict c.args.key.now c.take_entry.new.slots.items c.in-Some.before c.in-Some.ensures.before c.in-Some.ensures.put c.key_place.result c.key_place.ensures

pub lower-requires-in-Some-clause-within : goal.lower-requires-in-Some-clause-within
lower-requires-in-Some-clause-within c = value_in c.args.slots.now.items c.args.x c.args.total c.requires.kept c.requires.within c.requires.dict c.args.key.now c.take_entry.new.slots.items c.in-Some.before c.in-Some.ensures.before c.in-Some.ensures.put c.lower.new.slots.items c.key_place.result c.key_place.ensures c.lower.ensures c.place_of.result c.place_of.ensures

pub lower-requires-in-Some-clause-held : goal.lower-requires-in-Some-clause-held
lower-requires-in-Some-clause-held c = value_held c.args.slots.now.items c.args.x c.args.total c.requires.kept c.requires.within c.requires.dict c.args.key.now c.take_entry.new.slots.items c.in-Some.before c.in-Some.ensures.before c.in-Some.ensures.put c.lower.new.slots.items c.key_place.result c.key_place.ensures c.lower.ensures c.place_of.result c.place_of.ensures

pub overflow_cast-result : goal.overflow_cast-result
overflow_cast-result c = omega (arith, c.entry_weight.ensures.weight, c.requires.kept.light, weight_taken c.args.slots.now.items c.args.x c.args.total c.requires.kept c.requires.within c.requires.dict c.args.key.now c.take_entry.new.slots.items c.in-Some.before c.in-Some.ensures.before c.in-Some.ensures.put)

pub overflow_sub-result : goal.overflow_sub-result
overflow_sub-result c = omega (arith, c.entry_weight.ensures.weight, weight_taken c.args.slots.now.items c.args.x c.args.total c.requires.kept c.requires.within c.requires.dict c.args.key.now c.take_entry.new.slots.items c.in-Some.before c.in-Some.ensures.before c.in-Some.ensures.put)

pub returns-in-Some-clause-some : goal.returns-in-Some-clause-some
returns-in-Some-clause-some c = taken_now c.args.slots.now.items c.args.x c.args.total c.requires.kept c.requires.within c.requires.dict c.args.key.now c.take_entry.new.slots.items c.in-Some.before c.in-Some.ensures.before c.in-Some.ensures.put c.lower.new.slots.items c.key_place.result c.key_place.ensures c.lower.ensures c.lower-in-Some.new.slots.items c.place_of.result c.entry_weight.result c.place_of.ensures c.lower-in-Some.ensures c.entry_weight.ensures.weight

pub returns-in-None-clause-none : goal.returns-in-None-clause-none
returns-in-None-clause-none c = absent_now c.args.slots.now.items c.args.x c.args.total c.requires.kept c.requires.within c.requires.dict c.args.key.now c.take_entry.new.slots.items c.in-None.ensures.before c.in-None.ensures.put
