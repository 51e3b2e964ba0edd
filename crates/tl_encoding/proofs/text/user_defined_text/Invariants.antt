use Rattle.std.proofs.Common.{◌≡◌, ◌++◌, drop, encode_utf8, flat_map, string_bytes}
use Rattle.tl_encoding.specs.Decoders.{user_defined}
use Rattle.tl_encoding.proofs.text.user_defined_text.Given as goal

-- what is written, and then the text of the bytes that are left, is all
abbrev pub invariant-loop-byte : goal.invariant-loop-byte
invariant-loop-byte l = string_bytes l.text ++ flat_map (λ b. encode_utf8 (user_defined b)) (drop l.byte-index l.bytes) ≡ flat_map (λ b. encode_utf8 (user_defined b)) l.bytes
