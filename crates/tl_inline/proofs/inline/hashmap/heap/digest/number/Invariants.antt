use Rattle.std.proofs.Common.{◌≡◌, take}
use Rattle.tl_inline.specs.Digest.{number_of}
use Rattle.tl_inline.proofs.inline.hashmap.heap.digest.number.Given as goal

abbrev pub invariant-loop-byte : goal.invariant-loop-byte
invariant-loop-byte l = l.number ≡ number_of l.fn.begin (take l.byte-index l.bytes)
