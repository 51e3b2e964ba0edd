use Rattle.std.proofs.Common.{◌≡◌, ◌++◌, drop, string_bytes}
use Rattle.tl_encoding.specs.Marks.{marks}
use Rattle.tl_encoding.proofs.marks.push_marks.Given as goal

-- what is written, and then the marks of the bytes that are left, is all
abbrev pub invariant-loop-byte : goal.invariant-loop-byte
invariant-loop-byte l = string_bytes l.text ++ marks (drop l.byte-index l.bytes) ≡ string_bytes l.initial.text ++ marks l.bytes
