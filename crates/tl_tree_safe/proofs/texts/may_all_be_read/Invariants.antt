use Rattle.std.proofs.Common.{◌≡◌, drop}
use Rattle.std.specs.List.{list_all}
use Rattle.tl_tree_spec.specs.Stays.{may_be_read}
use Rattle.tl_tree_safe.proofs.texts.may_all_be_read.Given as goal

abbrev pub invariant-loop-byte : goal.invariant-loop-byte
invariant-loop-byte l = list_all (may_be_read l.in_flow) l.bytes ≡ list_all (may_be_read l.in_flow) (drop l.byte-index l.bytes)
