use Rattle.std.proofs.Common.{◌+◌, ◌∙◌, ℕ, Option, ap, ap₂, drop}
use Rattle.tl_spec.specs.Tree.Element.{children_of}
use Rattle.tl_table.specs.Inner.Steps.{with_child, with_row}
use Rattle.tl_table.proofs.Rows.{row_next}
use Rattle.tl_table.proofs.links.link_children.Goals as goal

pub loop-place-preserved : goal.loop-place-preserved
loop-place-preserved g c =
    let cs = children_of (g.N.Element.node c.args.node.now) in
    let place = c.loop-place.place in
    let links = c.loop-place.links.items in
    let parent = c.args.parent in
    ap (with_row (drop (place + 1) cs) parent) c.link_child.ensures
    ∙ (ap₂ (λ (child next : Option ℕ). with_row (drop (place + 1) cs) parent (with_child child parent next links)) c.child.ensures c.child-in-loop-place.ensures
    ∙ (row_next cs place parent links ∙ c.loop-place.invariant))
