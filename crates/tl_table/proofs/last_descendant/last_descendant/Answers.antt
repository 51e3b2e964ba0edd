use Rattle.std.proofs.Common.{◌≡◌, ◌<◌, ◌∷◌, suc, Some, map, slice_get, sym, ◌∙◌, arith}
use Rattle.tl_table.proofs.Way.{found-at, here, further, below-off, below-above, steps-on}
use Rattle.tl_table.proofs.last_descendant.last_descendant.Goals as goal
use Rattle.tl_table.proofs.last_descendant.last_descendant.Goals.{After-last_child}
use Rattle.tl_table.proofs.last_descendant.last_descendant.Given.{Over}

known : (g : Over) (c : After-last_child g) → slice_get (map g.N.Element.node c.args.nodes.now) c.loop-node.handle ≡ Some (g.N.Element.node c.in-Some.node.now)
known g c = found-at g.N.Element.node c.args.nodes.now c.loop-node.handle c.in-Some.node.now c.in-Some.ensures.lookup.0 c.in-Some.ensures.lookup.1

pub returns-in_default-last_child : goal.returns-in_default-last_child
returns-in_default-last_child g c =
    let nodes = map g.N.Element.node c.args.nodes.now in
    let way = c.loop-node.invariant.way in
    sym way.2 ∙ here nodes way.0 c.loop-node.handle (g.N.Element.node c.in-Some.node.now) (known g ((goal.at.returns-in_default-last_child g c).After-last_child))
    (below-off c.loop-node.handle way.0 way.1) (sym c.last_child.ensures ∙ c.in_default-last_child.is)

pub returns-then-next-handle : goal.returns-then-next-handle
returns-then-next-handle g c rises =
    let nodes = map g.N.Element.node c.args.nodes.now in
    let steps = c.loop-node.invariant.steps in
    let further : c.loop-node.handle < c.in-Some-last_child.next =
    rises steps.0 c.loop-node.handle c.in-Some-last_child.next steps.1 (steps-on nodes (Some c.args.first) steps.0 c.loop-node.handle c.in-Some-last_child.next (g.N.Element.node c.in-Some.node.now)
    steps.1 (known g ((goal.at.returns-then-next-handle g c).After-last_child)) (sym c.last_child.ensures ∙ c.in-Some-last_child.is)) in
    omega (arith, further, c.if-next-handle.true)

pub loop-node-preserved : goal.loop-node-preserved
loop-node-preserved g c =
    let nodes = map g.N.Element.node c.args.nodes.now in
    let steps = c.loop-node.invariant.steps in
    let way = c.loop-node.invariant.way in
    let handle = c.loop-node.handle in
    let next = c.in-Some-last_child.next in
    let node = g.N.Element.node c.in-Some.node.now in
    let is = known g ((goal.at.loop-node-preserved g c).After-last_child) in
    let child = sym c.last_child.ensures ∙ c.in-Some-last_child.is in
    record {
      steps = (suc steps.0, steps-on nodes (Some c.args.first) steps.0 handle next node steps.1 is child);
      way = (
        handle ∷ way.0,
        (c.if-next-handle.false, below-above handle next way.0 c.if-next-handle.false way.1),
        sym (further nodes way.0 handle node is next (below-off handle way.0 way.1) child) ∙ way.2,
      );
    }
