use Rattle.std.proofs.Common.{◌≡◌, ◌++◌, encode_utf8, flat_map, length, string_bytes}
use Rattle.tl_encoding.specs.SingleByte.{of_index}
use Rattle.tl_encoding.proofs.text.single_byte_text.Given as goal

-- what is written, and then the text of the bytes that are left, is all
abbrev pub invariant-loop-rest : goal.invariant-loop-rest
invariant-loop-rest l = string_bytes l.text ++ flat_map (λ b. encode_utf8 (of_index l.index b)) l.rest ≡ flat_map (λ b. encode_utf8 (of_index l.index b)) l.bytes

abbrev pub decreases-loop-rest : goal.decreases-loop-rest
decreases-loop-rest l = length l.rest
