use Rattle.std.proofs.Common.{◌≡◌, drop}
use Rattle.tl_encoding.specs.Utf16.{start, utf_16_wrong}
use Rattle.tl_encoding.proofs.utf_16.utf_16_wrong.Given as goal

-- what is left has the first error of all
abbrev pub invariant-loop-at : goal.invariant-loop-at
invariant-loop-at l = utf_16_wrong l.order l.units l.at (drop l.at l.bytes) ≡ utf_16_wrong l.order start 0 l.bytes
