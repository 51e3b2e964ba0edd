use Rattle.std.proofs.Common.{◌≤◌, ◌+◌, ◌-◌, length}
use Rattle.tl_patch_edit.specs.Open.{AreNone}
use Rattle.tl_patch_edit.proofs.left_open.no_element.Given as goal

abbrev pub invariant-tokens : goal.invariant-tokens
invariant-tokens l = record { within : length l.left.items ≤ l.len + 1; none : AreNone l.left.items }

abbrev pub decreases-tokens : goal.decreases-tokens
decreases-tokens l = l.len + 1 - length l.left.items
