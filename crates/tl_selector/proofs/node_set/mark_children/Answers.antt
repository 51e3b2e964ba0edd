use Rattle.std.proofs.Common.{◌+◌, ◌∙◌, ap, drop}
use Rattle.tl_spec.specs.Tree.Element.{children_of}
use Rattle.tl_selector.specs.NodeSet.{spread}
use Rattle.tl_selector.proofs.Spreads.{spread_next}
use Rattle.tl_selector.proofs.node_set.mark_children.Goals as goal

pub loop-place-preserved : goal.loop-place-preserved
loop-place-preserved g c =
    let cs = children_of (g.N.Element.node c.args.node.now) in
    let place = c.loop-place.place in
    ap (spread (drop (place + 1) cs)) c.in_ok-mark_child.ensures.ok ∙ (spread_next cs place (c.loop-place.marks.items, c.loop-place.queue.items) ∙ c.loop-place.invariant)
