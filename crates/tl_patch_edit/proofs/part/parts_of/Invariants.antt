use Rattle.std.proofs.Common.{◌≡◌, map, take}
use Rattle.tl_patch_edit.specs.Inner.Parts.{parts_view, view_at}
use Rattle.tl_patch_edit.proofs.part.parts_of.Given as goal

abbrev pub invariant-loop-at : goal.invariant-loop-at
invariant-loop-at l = parts_view l.parts.items ≡ map (view_at l.page) (take l.at l.tokens)
