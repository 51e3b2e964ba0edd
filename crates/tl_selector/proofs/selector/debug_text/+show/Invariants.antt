use Rattle.std.proofs.Common.{◌+◌, ◌*◌, ◌≤◌}
use Rattle.tl_selector.specs.declared.selector.Selector.{size-Selector}
use Rattle.tl_selector.proofs.selector.debug_text.+show.Given as goal

abbrev pub decreases-show : goal.decreases-show
decreases-show g l = 2 * goal.size-show g l + 1

abbrev pub decreases-show_open : goal.decreases-show_open
decreases-show_open g l = 2 * goal.size-show_open g l

abbrev pub invariant-show_open-inwards : goal.invariant-show_open-inwards
invariant-show_open-inwards g l = size-Selector l.first ≤ size-Selector l.e
