use Rattle.std.proofs.Common.{◌≡◌, ◌<◌, ◌∷◌, Some, false, length, map, slice_get, sym, ◌∙◌, ltb-true}
use Rattle.tl_spec.specs.Walk.{stands_on}
use Rattle.tl_table.proofs.Way.{found-at, here, further, one-more}
use Rattle.tl_table.proofs.last_descendant.visited.end_by_visited.Goals as goal
use Rattle.tl_table.proofs.last_descendant.visited.end_by_visited.Goals.{After-last_child}
use Rattle.tl_table.proofs.last_descendant.visited.end_by_visited.Given.{Over}

known : (g : Over) (c : After-last_child g) → slice_get (map g.N.Element.node c.args.nodes.now) c.loop-node.handle ≡ Some (g.N.Element.node c.in-Some.node.now)
known g c = found-at g.N.Element.node c.args.nodes.now c.loop-node.handle c.in-Some.node.now c.in-Some.ensures.lookup.0 c.in-Some.ensures.lookup.1

inside : (g : Over) (c : After-last_child g) → c.loop-node.handle < length c.args.nodes.now
inside g c = ltb-true c.loop-node.handle (length c.args.nodes.now) (sym c.in-Some.ensures.lookup.0)

unmet : (g : Over) (c : After-last_child g) → stands_on c.loop-node.invariant.0 c.loop-node.handle ≡ false
unmet g c = sym (c.loop-node.invariant.1.tell c.loop-node.handle _ (inside g c)) ∙ c.if-marks-handle.false

pub returns-in_default-last_child-clause-end : goal.returns-in_default-last_child-clause-end
returns-in_default-last_child-clause-end g c =
    let after = (goal.at.returns-in_default-last_child-clause-end g c).After-last_child in
    let way = c.loop-node.invariant in
    sym way.2 ∙ here (map g.N.Element.node c.args.nodes.now) way.0 c.loop-node.handle (g.N.Element.node c.in-Some.node.now) (known g after)
    (unmet g after) (sym c.last_child.ensures ∙ c.in_default-last_child.is)

pub loop-node-preserved : goal.loop-node-preserved
loop-node-preserved g c =
    let after = (goal.at.loop-node-preserved g c).After-last_child in
    let way = c.loop-node.invariant in
    let handle = c.loop-node.handle in (
      handle ∷ way.0,
      one-more (length c.args.nodes.now) way.0 c.loop-node.marks handle (inside g after) way.1,
      sym (further (map g.N.Element.node c.args.nodes.now) way.0 handle (g.N.Element.node c.in-Some.node.now) (known g after) c.in-Some-last_child.next
          (unmet g after) (sym c.last_child.ensures ∙ c.in-Some-last_child.is))
          ∙ way.2,
    )
