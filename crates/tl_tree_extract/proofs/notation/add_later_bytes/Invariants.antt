use Rattle.std.proofs.Common.{◌≡◌, ◌++◌, flat_map, take}
use Rattle.tl_tree_extract.specs.Notation.{name_byte}
use Rattle.tl_tree_extract.proofs.notation.add_later_bytes.Given as goal

-- what was added are the bytes so far
abbrev pub invariant-loop-byte : goal.invariant-loop-byte
invariant-loop-byte l = l.out.items ≡ l.fn.out.items ++ flat_map name_byte (take l.byte-index l.bytes)
