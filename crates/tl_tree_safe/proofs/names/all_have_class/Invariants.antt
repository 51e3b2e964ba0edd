use Rattle.std.proofs.Common.{◌≡◌, drop}
use Rattle.std.specs.List.{list_all}
use Rattle.tl_tree_safe.specs.Inner.Bytes.{has_class}
use Rattle.tl_tree_safe.proofs.names.all_have_class.Given as goal

abbrev pub invariant-loop-byte : goal.invariant-loop-byte
invariant-loop-byte l = list_all (has_class l.class) l.bytes ≡ list_all (has_class l.class) (drop l.byte-index l.bytes)
