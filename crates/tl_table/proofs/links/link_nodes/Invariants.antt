use Rattle.std.proofs.Common.{◌≡◌, drop, map}
use Rattle.tl_spec.specs.Tree.Element.{children_of}
use Rattle.tl_table.proofs.Rows.{with_rows}
use Rattle.tl_table.proofs.links.link_nodes.Given as goal

abbrev pub invariant-loop-number : goal.invariant-loop-number
invariant-loop-number g l = with_rows l.number (drop l.number (map children_of (map g.N.Element.node l.nodes))) l.links.items ≡ with_rows 0 (map children_of (map g.N.Element.node l.nodes)) l.initial.links.items
