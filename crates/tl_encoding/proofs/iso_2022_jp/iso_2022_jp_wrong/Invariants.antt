use Rattle.std.proofs.Common.{◌≡◌, drop}
use Rattle.tl_encoding.specs.Iso2022Jp.{iso_2022_jp_wrong, start}
use Rattle.tl_encoding.proofs.iso_2022_jp.iso_2022_jp_wrong.Given as goal

-- what is left has the first error of all
abbrev pub invariant-loop-at : goal.invariant-loop-at
invariant-loop-at l = iso_2022_jp_wrong l.state l.at (drop l.at l.bytes) ≡ iso_2022_jp_wrong start 0 l.bytes
