use Rattle.std.proofs.Common.{◌≡◌, ◌++◌, drop, take}
use Rattle.tl_tree_extract.specs.Refresh.{before}
use Rattle.tl_tree_extract.proofs.refresh.before.Given as goal

abbrev pub invariant-loop-index : goal.invariant-loop-index
invariant-loop-index l = take l.index l.bytes ++ before l.byte (drop l.index l.bytes) ≡ before l.byte l.bytes
