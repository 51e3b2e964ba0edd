use Rattle.std.proofs.Common.{◌≡◌, map, take}
use Rattle.tl_patch.specs.PatchView.{patch_view}
use Rattle.tl_patch_select.specs.Nodes.{all_placed, change_of}
use Rattle.tl_patch_select.proofs.nodes.patches_of.Given as goal

-- the patches are those of the nodes so far
abbrev pub invariant-loop-node : goal.invariant-loop-node
invariant-loop-node l = map patch_view l.patches.items ≡ all_placed l.tree (map change_of (take l.node-index l.changes))
