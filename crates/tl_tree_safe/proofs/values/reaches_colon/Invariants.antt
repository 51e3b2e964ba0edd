use Rattle.std.proofs.Common.{◌≡◌, drop}
use Rattle.tl_tree_safe.specs.Values.{reaches_colon}
use Rattle.tl_tree_safe.proofs.values.reaches_colon.Given as goal

abbrev pub invariant-loop-byte : goal.invariant-loop-byte
invariant-loop-byte l = reaches_colon l.link ≡ reaches_colon (drop l.byte-index l.link)
