use Rattle.std.proofs.Common.{arith}
use Rattle.bulk_changes.proofs.Merging.{alike, few, heavy, light, many}
use Rattle.bulk_changes.proofs.merges.fits.Goals as goal

pub returns-then-len-tally-gt-MOST_ITEMS-clause-err : goal.returns-then-len-tally-gt-MOST_ITEMS-clause-err
returns-then-len-tally-gt-MOST_ITEMS-clause-err c =
    let same = alike c.args.heap.now.state c.args.of.0 c.args.other.0 c.args.overwrite c.entries-before.result.now c.entries-put.result.now c.entries-before.ensures.value c.entries-put.ensures.value in
    let once = same.once c.entries-put.ensures.once in
    many c.args.heap.now.state c.args.of.0 c.args.other.0 c.requires.dict c.args.overwrite once (omega (arith, same.length, same.keys, c.len.ensures, c.sum_up-tally.ensures.keys, c.if-len-tally-gt-MOST_ITEMS.true))

pub returns-then-tally-room-clause-err : goal.returns-then-tally-room-clause-err
returns-then-tally-room-clause-err c =
    let same = alike c.args.heap.now.state c.args.of.0 c.args.other.0 c.args.overwrite c.entries-before.result.now c.entries-put.result.now c.entries-before.ensures.value c.entries-put.ensures.value in
    let once = same.once c.entries-put.ensures.once in
    let less = few c.args.heap.now.state c.args.of.0 c.args.other.0 c.requires.dict c.args.overwrite once (omega (arith, same.length, same.keys, c.len.ensures, c.sum_up-tally.ensures.keys, c.if-len-tally-gt-MOST_ITEMS.false)) in
    heavy c.args.heap.now.state c.args.of.0 c.args.other.0 c.requires.dict c.args.overwrite once less c.room.result c.room.ensures.room (omega (arith, same.more, same.less, c.sum_up-tally.ensures.more, c.sum_up-tally.ensures.less, c.if-tally-room.true))

pub returns-clause-count : goal.returns-clause-count
returns-clause-count c =
    let same = alike c.args.heap.now.state c.args.of.0 c.args.other.0 c.args.overwrite c.entries-before.result.now c.entries-put.result.now c.entries-before.ensures.value c.entries-put.ensures.value in
    let once = same.once c.entries-put.ensures.once in
    few c.args.heap.now.state c.args.of.0 c.args.other.0 c.requires.dict c.args.overwrite once (omega (arith, same.length, same.keys, c.len.ensures, c.sum_up-tally.ensures.keys, c.if-len-tally-gt-MOST_ITEMS.false))

pub returns-clause-light : goal.returns-clause-light
returns-clause-light c =
    let same = alike c.args.heap.now.state c.args.of.0 c.args.other.0 c.args.overwrite c.entries-before.result.now c.entries-put.result.now c.entries-before.ensures.value c.entries-put.ensures.value in
    let once = same.once c.entries-put.ensures.once in
    light c.args.heap.now.state c.args.of.0 c.args.other.0 c.requires.dict c.args.overwrite once c.room.result c.room.ensures.room (omega (arith, same.more, same.less, c.sum_up-tally.ensures.more, c.sum_up-tally.ensures.less, c.if-tally-room.false))
