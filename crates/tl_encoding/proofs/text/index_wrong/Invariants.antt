use Rattle.std.proofs.Common.{◌≡◌, drop}
use Rattle.tl_encoding.specs.Decoders.{index_wrong}
use Rattle.tl_encoding.proofs.text.index_wrong.Given as goal

-- what is left has the first error of all
abbrev pub invariant-loop-at : goal.invariant-loop-at
invariant-loop-at l = index_wrong l.index l.at (drop l.at l.bytes) ≡ index_wrong l.index 0 l.bytes
