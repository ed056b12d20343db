use Rattle.std.proofs.Common.{ℕ, ◌<◌, length, ◌∙◌, arith, length-set, Vec, Global}
use Rattle.index_lists.proofs.PlainLemmas.{done_more, rest_more}
use Rattle.index_lists.proofs.plain.remove.Goals as goal

pub loop-list-preserved : goal.loop-list-preserved
loop-list-preserved c =
    let f = λ (list : Vec ℕ Global). list.items in
    let within : c.loop-list.list-index < length c.loop-list.list-items = omega arith in
    record {
      len = length-set _ _ _ ∙ c.loop-list.invariant.len;
      done = done_more f c.args.node _ _ c.loop-list.list-index c.list-item.result c.leave_out.new.nodes within c.loop-list.invariant.len c.list-item.is c.leave_out.ensures c.loop-list.invariant.rest c.loop-list.invariant.done;
      rest = rest_more f c.args.node _ _ c.loop-list.list-index c.list-item.result c.leave_out.new.nodes within c.loop-list.invariant.len c.list-item.is c.leave_out.ensures c.loop-list.invariant.rest;
    }
