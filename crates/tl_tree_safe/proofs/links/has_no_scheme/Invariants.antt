use Rattle.std.proofs.Common.{◌≡◌, drop}
use Rattle.tl_tree_safe.specs.Lists.{has_no_scheme}
use Rattle.tl_tree_safe.proofs.links.has_no_scheme.Given as goal

abbrev pub invariant-loop-byte : goal.invariant-loop-byte
invariant-loop-byte l = has_no_scheme l.link ≡ has_no_scheme (drop l.byte-index l.link)
