use Rattle.std.proofs.Common.{drop, ◌≡◌}
use Rattle.tl_c.specs.NodeChanges.{are_changes}
use Rattle.tl_c.proofs.node_patch.are_changes.Given as goal

-- those so far are changes
abbrev pub invariant-loop-one : goal.invariant-loop-one
invariant-loop-one l = are_changes l.lent ≡ are_changes (drop l.one-index l.lent)
