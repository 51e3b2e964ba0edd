use Rattle.std.proofs.Common.{◌≡◌, take, fold}
use Rattle.tl_inline.specs.Digest.{with_byte}
use Rattle.tl_inline.proofs.inline.hashmap.heap.digest.FeedHasher.write.Given as goal

abbrev pub invariant-loop-byte : goal.invariant-loop-byte
invariant-loop-byte l = l.self ≡ fold with_byte l.fn.self (take l.byte-index l.bytes)
