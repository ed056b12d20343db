use Rattle.std.proofs.Common.{◌∙◌, arith}
use Rattle.bulk_changes.proofs.Growing.{cells_next, length_next, row_next, weight_next, known_next}
use Rattle.bulk_changes.proofs.resizes.add_many.Goals as goal

pub loop-i-preserved : goal.loop-i-preserved
loop-i-preserved c =
    let inv = c.loop-i.invariant in
    let ok = c.in_ok-v.ensures.ok in
    record {
      cells = cells_next c.args.kind c.loop-i.heap.state c.add_one.new.heap.state c.args.count c.loop-i.i c.loop-i-test.true ok ∙ inv.cells;
      row = row_next c.args.kind c.loop-i.heap.state c.add_one.new.heap.state c.args.count c.loop-i.i c.loop-i-test.true ok c.loop-i.list.items c.push.new.self.items c.in_ok-v.v c.in_ok-v.ensures.value c.in_ok-push.ensures.items ∙ inv.row;
      room = omega (arith, weight_next c.args.kind c.loop-i.heap.state c.add_one.new.heap.state c.args.count c.loop-i.i c.loop-i-test.true ok);
      serials = omega (arith, inv.serials, length_next c.args.kind c.loop-i.heap.state c.add_one.new.heap.state c.args.count c.loop-i.i c.loop-i-test.true ok);
      keeps = λ v k. c.add_one.ensures.keeps v (inv.keeps v k);
      kept = λ x. c.add_one.ensures.kept x ∙ inv.kept x;
      known = known_next c.loop-i.heap.state.cells c.add_one.new.heap.state.cells c.loop-i.list.items c.push.new.self.items c.in_ok-v.v c.add_one.ensures.keeps inv.known c.in_ok-v.ensures.known c.in_ok-push.ensures.items;
    }
