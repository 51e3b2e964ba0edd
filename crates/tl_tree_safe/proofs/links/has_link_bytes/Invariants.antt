use Rattle.std.proofs.Common.{◌≡◌, drop}
use Rattle.std.specs.List.{list_all}
use Rattle.tl_tree_safe.specs.Lists.{is_link_byte}
use Rattle.tl_tree_safe.proofs.links.has_link_bytes.Given as goal

abbrev pub invariant-loop-byte : goal.invariant-loop-byte
invariant-loop-byte l = list_all is_link_byte l.value ≡ list_all is_link_byte (drop l.byte-index l.value)
