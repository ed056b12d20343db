use Rattle.ref_objects.proofs.Freeing.{detached_within, detached_rooted, freeing_top, pruned}
use Rattle.ref_objects.proofs.frees.free_tree.Goals as goal

pub returns-clause-pruned : goal.returns-clause-pruned
returns-clause-pruned c =
    let a = c.args.slots.now.items in
    let a' = c.detach.new.slots.items in
    let top = freeing_top a' c.take_object-left.new.slots.items c.take_object-left.result c.args.x (detached_rooted a a' c.args.x c.args.total c.detach.ensures c.requires.rooted) (detached_within a a' c.args.x c.args.total c.detach.ensures c.requires.within) c.take_object-left.ensures.kept c.take_object-left.ensures.lost in
    pruned a a' c.args.x c.args.total c.detach.ensures c.take_orphans-left.new.slots.items c.cut_all.new.slots.items c.take_orphans-left.result (c.take_orphans-left.ensures.freed a' c.args.x top) c.take_orphans-left.ensures.none c.cut_all.ensures.cut c.cut_all.ensures.held c.requires.object
