use Rattle.std.proofs.Common.{map, take, ◌≡◌}
use Rattle.tl_patch_select.specs.Inner.Sources.{keyed_stretch}
use Rattle.tl_patch_select.proofs.whole.by_start.Given as goal

-- those so far
abbrev pub invariant-loop-stretch : goal.invariant-loop-stretch
invariant-loop-stretch l = l.all.items ≡ map keyed_stretch (take l.stretch-index l.elements)
