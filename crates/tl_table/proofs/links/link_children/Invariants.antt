use Rattle.std.proofs.Common.{◌≡◌, drop}
use Rattle.tl_spec.specs.Tree.Element.{children_of}
use Rattle.tl_table.specs.Inner.Steps.{with_row}
use Rattle.tl_table.proofs.links.link_children.Given as goal

abbrev pub invariant-loop-place : goal.invariant-loop-place
invariant-loop-place g l = with_row (drop l.place (children_of (g.N.Element.node l.node))) l.parent l.links.items ≡ with_row (children_of (g.N.Element.node l.fn.node)) l.fn.parent l.fn.links.items
