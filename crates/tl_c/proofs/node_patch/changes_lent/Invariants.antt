use Rattle.std.proofs.Common.{map, take, ◌≡◌}
use Rattle.tl_patch_select.specs.Nodes.{change_of}
use Rattle.tl_c.specs.NodeChanges.{changes_lent}
use Rattle.tl_c.proofs.node_patch.changes_lent.Given as goal

-- the changes are those that were lent so far
abbrev pub invariant-loop-one : goal.invariant-loop-one
invariant-loop-one l = map change_of l.changes.items ≡ changes_lent (take l.one-index l.lent)
