use Rattle.std.proofs.Common.{◌≡◌, map, take}
use Rattle.tl_patch_select.specs.Nodes.{change_of, number_of}
use Rattle.tl_patch_select.proofs.nodes.numbers_of.Given as goal

-- the numbers are those of the nodes so far
abbrev pub invariant-loop-node : goal.invariant-loop-node
invariant-loop-node l = l.numbers.items ≡ map number_of (map change_of (take l.node-index l.changes))
