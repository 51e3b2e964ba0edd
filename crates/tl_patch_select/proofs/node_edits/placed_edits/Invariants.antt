use Rattle.std.proofs.Common.{◌≡◌, map, take}
use Rattle.tl_patch_edit.specs.View.{patches_view}
use Rattle.tl_patch_select.specs.NodeEdits.{edit_of, placed_edits}
use Rattle.tl_patch_select.proofs.node_edits.placed_edits.Given as goal

-- the patches are those of the nodes so far
abbrev pub invariant-loop-node : goal.invariant-loop-node
invariant-loop-node l = patches_view l.patches.items ≡ placed_edits l.tree (map edit_of (take l.node-index l.edits))
