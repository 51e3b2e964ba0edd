use Rattle.std.proofs.Common.{drop, ◌++◌, ◌≡◌}
use Rattle.std.specs.List.{filter}
use Rattle.tl_tree_safe.specs.Values.{is_in_line}
use Rattle.tl_tree_safe.proofs.values.in_line.Given as goal

abbrev pub invariant-loop-byte : goal.invariant-loop-byte
invariant-loop-byte l = filter is_in_line l.link ≡ l.kept.items ++ filter is_in_line (drop l.byte-index l.link)
