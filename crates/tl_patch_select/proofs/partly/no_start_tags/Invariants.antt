use Rattle.std.proofs.Common.{◌≡◌, map, take}
use Rattle.tl_patch_edit.specs.declared.error.EditError.TheVariants.{NoStartTag}
use Rattle.tl_patch_select.proofs.partly.no_start_tags.Given as goal

-- those of the places so far
abbrev pub invariant-loop-place : goal.invariant-loop-place
invariant-loop-place l = l.errors.items ≡ map NoStartTag (take l.place-index l.places)
