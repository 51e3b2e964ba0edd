use Rattle.std.proofs.Common.{◌≡◌, map, take}
use Rattle.tl_patch_edit.specs.View.{patch_view}
use Rattle.tl_patch_select.specs.NodeEdits.{edit_of}
use Rattle.tl_patch_select.specs.Partly.{patched_each}
use Rattle.tl_patch_select.proofs.partly.each.Given as goal

-- the patches are those of the elements so far
abbrev pub invariant-loop-number : goal.invariant-loop-number
invariant-loop-number l = map edit_of l.edits.items ≡ patched_each (patch_view l.patch) (take l.number-index l.numbers)
