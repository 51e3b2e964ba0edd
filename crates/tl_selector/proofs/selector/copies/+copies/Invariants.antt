use Rattle.std.proofs.Common.{◌≡◌, ◌+◌, ◌*◌, ◌≤◌, length}
use Rattle.std.specs.List.{All}
use Rattle.tl_selector.specs.Spine.{nested_in, selectors}
use Rattle.tl_selector.specs.View.{selector}
use Rattle.tl_selector.specs.declared.selector.Selector.{size-Selector}
use Rattle.tl_selector.proofs.selector.copies.+copies.Given as goal

abbrev pub decreases-copy : goal.decreases-copy
decreases-copy l = 4 * goal.size-copy l + 2

abbrev pub decreases-copy_complex : goal.decreases-copy_complex
decreases-copy_complex l = 4 * goal.size-copy_complex l + 1

abbrev pub decreases-wrap : goal.decreases-wrap
decreases-wrap l = 4 * size-Selector l.e.now

abbrev pub decreases-copy_box : goal.decreases-copy_box
decreases-copy_box l = 4 * goal.size-copy_box l + 3

abbrev pub invariant-copy_complex-outwards : goal.invariant-copy_complex-outwards
invariant-copy_complex-outwards l = record {
  whole : nested_in (selectors l.wholes.items) (selector l.copy) ≡ selector l.e;
  depth : All (λ x. size-Selector x.now ≤ size-Selector l.e) l.wholes.items;
}

abbrev pub decreases-copy_complex-outwards : goal.decreases-copy_complex-outwards
decreases-copy_complex-outwards l = length l.wholes.items
