use Rattle.std.proofs.Common.{◌≡◌, drop, map, take}
use Rattle.tl.specs.View.{node_view}
use Rattle.uses.specs.Fields.{fields_of, node_with}
use Rattle.uses.proofs.fill.fill_nodes.Given as goal

-- the nodes so far have fields, and those that are left are as they were
abbrev pub invariant-loop-node : goal.invariant-loop-node
invariant-loop-node l = record {
  done : map node_view (take l.node-index l.nodes) ≡ map (node_with (fields_of l.fields)) (map node_view (take l.node-index l.initial.nodes));
  left : drop l.node-index l.nodes ≡ drop l.node-index l.initial.nodes;
}
