use Rattle.std.proofs.Common.{◌≡◌, drop}
use Rattle.tl_encoding.specs.MultiByte.{multi_byte_wrong}
use Rattle.tl_encoding.specs.declared.multi_byte.Held.TheVariants.{Nothing}
use Rattle.tl_encoding.proofs.multi_byte.multi_byte_wrong.Given as goal

-- what is left has the first error of all
abbrev pub invariant-loop-at : goal.invariant-loop-at
invariant-loop-at l = multi_byte_wrong l.name l.held l.at (drop l.at l.bytes) ≡ multi_byte_wrong l.name Nothing 0 l.bytes
