use Rattle.std.proofs.Common.{map, take, ◌≡◌}
use Rattle.tl_patch_select.specs.NodeEdits.{edit_of}
use Rattle.tl_c.specs.NodeEdits.{edits_lent}
use Rattle.tl_c.proofs.node_edit.edits_lent.Given as goal

-- the patches are those that were lent so far
abbrev pub invariant-loop-one : goal.invariant-loop-one
invariant-loop-one l = map edit_of l.edits.items ≡ edits_lent (take l.one-index l.lent)
