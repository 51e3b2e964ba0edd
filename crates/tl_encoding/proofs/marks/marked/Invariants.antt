use Rattle.std.proofs.Common.{◌≡◌, ◌++◌, string_bytes}
use Rattle.std.specs.Str.Chunks.{utf8_chunks_rest}
use Rattle.tl_encoding.specs.Marks.{marked}
use Rattle.tl_encoding.proofs.marks.marked.Given as goal

-- what is written, and then the text of the bytes that are left, is all
abbrev pub invariant-loop-chunk : goal.invariant-loop-chunk
invariant-loop-chunk l = string_bytes l.text ++ marked (utf8_chunks_rest l.chunk-iterator) ≡ marked l.bytes
