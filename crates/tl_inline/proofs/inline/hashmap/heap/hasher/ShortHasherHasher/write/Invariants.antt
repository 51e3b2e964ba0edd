use Rattle.std.proofs.Common.{◌≡◌, take, fold}
use Rattle.tl_inline.specs.ShortHash.{with_number}
use Rattle.tl_inline.proofs.inline.hashmap.heap.hasher.ShortHasherHasher.write.Given as goal

abbrev pub invariant-loop-byte : goal.invariant-loop-byte
invariant-loop-byte l = l.self ≡ fold with_number l.fn.self (take l.byte-index l.bytes)
