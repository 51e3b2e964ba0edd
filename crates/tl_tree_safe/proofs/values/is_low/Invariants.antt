use Rattle.std.proofs.Common.{◌≡◌, drop}
use Rattle.tl_tree_safe.specs.Inner.Staying.{is_low}
use Rattle.tl_tree_safe.proofs.values.is_low.Given as goal

abbrev pub invariant-loop-byte : goal.invariant-loop-byte
invariant-loop-byte l = is_low l.link ≡ is_low (drop l.byte-index l.link)
