use Rattle.std.proofs.Common.{◌≡◌, ◌≤◌}
use Rattle.tl_spec.specs.Select.Search.{holds_alone}
use Rattle.tl_selector.specs.View.{selector}
use Rattle.tl_selector.specs.declared.selector.Selector.{size-Selector}
use Rattle.tl_selector.proofs.matching.+holds_alone.Given as goal

abbrev pub invariant-sides : goal.invariant-sides
invariant-sides g l = record {
  same : holds_alone (selector l.whole) (g.E.Element.node l.node) ≡ holds_alone (selector l.e) (g.E.Element.node l.node);
  depth : size-Selector l.whole ≤ size-Selector l.e;
}
