use Rattle.std.proofs.Common.{◌≡◌, map, take}
use Rattle.tl_patch_edit.specs.Stretches.{stretch_of}
use Rattle.tl_patch_elements.specs.View.{elements_view}
use Rattle.tl_patch_edit.proofs.reach.all_stretches.Given as goal

-- those of the elements so far
abbrev pub invariant-loop-element : goal.invariant-loop-element
invariant-loop-element l = l.all.items ≡ map (stretch_of l.page) (elements_view (take l.element-index l.elements))
