use Rattle.std.proofs.Common.{◌≡◌, map, take}
use Rattle.tl_patch_select.specs.NodeEdits.{edit_of, edited_number}
use Rattle.tl_patch_select.proofs.node_edits.numbers_of.Given as goal

-- the numbers are those of the nodes so far
abbrev pub invariant-loop-node : goal.invariant-loop-node
invariant-loop-node l = l.numbers.items ≡ map edited_number (map edit_of (take l.node-index l.edits))
