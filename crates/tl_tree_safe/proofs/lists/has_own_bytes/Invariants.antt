use Rattle.std.proofs.Common.{◌≡◌, drop}
use Rattle.std.specs.List.{list_all}
use Rattle.tl_tree_safe.specs.Lists.{is_own_byte}
use Rattle.tl_tree_safe.proofs.lists.has_own_bytes.Given as goal

abbrev pub invariant-loop-byte : goal.invariant-loop-byte
invariant-loop-byte l = list_all is_own_byte l.value ≡ list_all is_own_byte (drop l.byte-index l.value)
