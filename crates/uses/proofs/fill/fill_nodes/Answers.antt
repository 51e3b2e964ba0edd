use Rattle.std.proofs.Common.{◌≡◌, ◌<◌, length, ap, sym, ◌∙◌, arith}
use Rattle.tl.specs.View.{HTMLNode, node_view}
use Rattle.uses.specs.Fields.{Fields, fields_of, node_with}
use Rattle.uses.proofs.Nodes.{done_after, left_after}
use Rattle.uses.proofs.fill.fill_nodes.Goals as goal

pub loop-node-preserved : goal.loop-node-preserved
loop-node-preserved c =
    let fields : Fields = fields_of c.args.fields.now in
    let nodes = c.loop-node.nodes in
    let i = c.loop-node.node-index in
    let old = c.node-item.result in
    let new = c.fill_node.new.node in
    let within : i < length nodes = omega arith in
    let filled : node_view new ≡ node_with fields (node_view old) = c.in_ok-fill_node.ensures ∙ ap (λ (n : HTMLNode). node_with fields (node_view n)) (sym c.node-item.is) in
    record {
      done = done_after fields nodes c.args.nodes.now i old new within c.node-item.is filled c.loop-node.invariant.left c.loop-node.invariant.done;
      left = left_after fields nodes c.args.nodes.now i old new within c.node-item.is filled c.loop-node.invariant.left;
    }
