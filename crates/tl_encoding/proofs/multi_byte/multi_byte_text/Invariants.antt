use Rattle.std.proofs.Common.{◌≡◌, ◌++◌, length, string_bytes}
use Rattle.tl_encoding.specs.MultiByte.{multi_byte}
use Rattle.tl_encoding.specs.declared.multi_byte.Held.TheVariants.{Nothing}
use Rattle.tl_encoding.proofs.multi_byte.multi_byte_text.Given as goal

-- what is written, and then what the bytes that are left give, is all
abbrev pub invariant-loop-rest : goal.invariant-loop-rest
invariant-loop-rest l = string_bytes l.text ++ multi_byte l.name l.held l.rest ≡ multi_byte l.name Nothing l.bytes

abbrev pub decreases-loop-rest : goal.decreases-loop-rest
decreases-loop-rest l = length l.rest
