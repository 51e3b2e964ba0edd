use Rattle.std.proofs.Common.{drop, ◌≡◌}
use Rattle.tl_c.specs.NodeEdits.{are_edits}
use Rattle.tl_c.proofs.node_edit.are_edits.Given as goal

-- those so far ask for patches
abbrev pub invariant-loop-one : goal.invariant-loop-one
invariant-loop-one l = are_edits l.lent ≡ are_edits (drop l.one-index l.lent)
