use Rattle.std.proofs.Common.{◌≡◌, drop}
use Rattle.tl_tree_safe.specs.Refusals.{has_colon}
use Rattle.tl_tree_safe.proofs.names.has_colon.Given as goal

abbrev pub invariant-loop-byte : goal.invariant-loop-byte
invariant-loop-byte l = has_colon l.word ≡ has_colon (drop l.byte-index l.word)
