use Rattle.std.proofs.Common.{map, [], ◌∷◌, ◌++◌, subst}
use Rattle.tl_selector.proofs.Unders.{Under, under_step}
use Rattle.tl_selector.proofs.node_set.children_of_set.Goals as goal

pub work-preserved : goal.work-preserved
work-preserved t c =
    let g = map t.N.Element.node c.args.nodes.now in
    let h = c.args.holds.now in
    let w : Under g h c.work.marks.items (c.pop.new.self.items ++ c.in-Some.m ∷ []) = subst (Under g h c.work.marks.items) c.in-Some.ensures.items c.work.invariant in
    let e = c.in_ok-mark_children_at.ensures in
    under_step g h c.work.marks.items c.pop.new.self.items c.work.found.items c.in-Some.m (c.mark_children_at.new.marks.items, c.mark_children_at.new.queue.items) w e
