use Rattle.std.proofs.Common.{arith, refl}
use Rattle.variant_values.specs.declared.values.Value.TheVariants.{Array}
use Rattle.bulk_changes.proofs.Growing.{grown_full, grown_many, grown_ok}
use Rattle.bulk_changes.proofs.resizes.grow_by.Goals as goal

pub returns-then-more-room-clause-given : goal.returns-then-more-room-clause-given
returns-then-more-room-clause-given c = (grown_full c.args.heap.now.state c.args.of.0 c.requires.array c.args.kind c.args.more (omega (arith, c.room.ensures.room)), refl)

pub returns-then-more-serials_left-clause-given : goal.returns-then-more-serials_left-clause-given
returns-then-more-serials_left-clause-given c = (grown_many c.args.heap.now.state c.args.of.0 c.requires.array c.args.kind c.args.more (omega (arith, c.serials_left.ensures.left)), refl)

pub put_last-requires-clause-array : goal.put_last-requires-clause-array
put_last-requires-clause-array c = c.add_many.ensures.keeps (Array c.args.of) c.requires.array

pub returns-clause-given : goal.returns-clause-given
returns-clause-given c = grown_ok c.args.heap.now.state c.args.of.0 c.requires.array c.args.kind c.args.more c.put_last.result c.add_many.new.heap.state c.put_last.new.heap.state c.in_ok-put.put.items c.in_ok-put.ensures.ok c.in_ok-put.ensures.values (omega (arith, c.room.ensures.room)) (omega (arith, c.serials_left.ensures.left)) c.put_last.ensures.given
