use Rattle.std.proofs.Common.{map, take, ◌≡◌}
use Rattle.tl_patch_select.specs.Inner.Sources.{turned}
use Rattle.tl_patch_select.proofs.whole.turned.Given as goal

-- those so far
abbrev pub invariant-loop-one : goal.invariant-loop-one
invariant-loop-one l = l.places.items ≡ map turned (take l.one-index l.all)
