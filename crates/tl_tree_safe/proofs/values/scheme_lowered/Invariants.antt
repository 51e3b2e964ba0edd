use Rattle.std.proofs.Common.{drop, ◌++◌, ◌≡◌}
use Rattle.tl_tree_safe.specs.Values.{lowered_to_colon, scheme_lowered}
use Rattle.tl_tree_safe.proofs.values.scheme_lowered.Given as goal

abbrev pub invariant-loop-byte : goal.invariant-loop-byte
invariant-loop-byte l = scheme_lowered l.link ≡ l.kept.items ++ lowered_to_colon l.is_scheme (drop l.byte-index l.link)
