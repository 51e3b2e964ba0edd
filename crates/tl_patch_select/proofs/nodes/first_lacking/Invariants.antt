use Rattle.std.proofs.Common.{◌≡◌, drop, map}
use Rattle.tl_patch_select.specs.Nodes.{change_of, first_lacking}
use Rattle.tl_patch_select.proofs.nodes.first_lacking.Given as goal

-- none so far lacks its tag
abbrev pub invariant-loop-node : goal.invariant-loop-node
invariant-loop-node l =
    first_lacking l.tree (map change_of l.changes) ≡ first_lacking l.tree (map change_of (drop l.node-index l.changes))
