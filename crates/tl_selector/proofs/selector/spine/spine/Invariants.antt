use Rattle.std.proofs.Common.{◌≡◌, ◌≤◌}
use Rattle.std.specs.List.{All}
use Rattle.tl_selector.specs.Spine.{nested_in, selectors}
use Rattle.tl_selector.specs.View.{selector}
use Rattle.tl_selector.specs.declared.selector.Selector.{size-Selector}
use Rattle.tl_selector.proofs.selector.spine.spine.Given as goal

abbrev pub invariant-inwards : goal.invariant-inwards
invariant-inwards l = record {
  whole : nested_in (selectors l.wholes.items) (selector l.first) ≡ selector l.e;
  deeper : size-Selector l.first ≤ size-Selector l.e;
  depth : All (λ x. size-Selector x.now ≤ size-Selector l.e) l.wholes.items;
}

abbrev pub decreases-inwards : goal.decreases-inwards
decreases-inwards l = size-Selector l.first
