use Rattle.std.proofs.Common.{drop, ◌++◌, ◌≡◌}
use Rattle.tl_tree_safe.specs.Characters.{cleaned}
use Rattle.tl_tree_safe.proofs.clean.clean.Given as goal

abbrev pub invariant-loop-byte : goal.invariant-loop-byte
invariant-loop-byte l = cleaned l.bytes ≡ l.kept.items ++ cleaned (drop l.byte-index l.bytes)
