use Rattle.std.proofs.Common.{◌≤◌}
use Rattle.tl_selector.specs.declared.selector.Selector.{size-Selector}
use Rattle.tl_selector.proofs.selector.Selector.+drop.Given as goal

abbrev pub invariant-sides : goal.invariant-sides
invariant-sides l = size-Selector l.self ≤ size-Selector l.fn.self
