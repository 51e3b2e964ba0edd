-- Patches of the code, as the definitions have them.
use Rattle.std.specs.Prelude.{ℕ}
use Rattle.tl_patch.specs.declared.tag_patch.Change.{Change}
use Rattle.tl_patch.specs.declared.tag_patch.Change.TheVariants as change
use Rattle.tl_patch.specs.declared.tag_patch.TagPatch.{TagPatch}
use Rattle.tl_patch_spec.specs.TagChanges.{Set, TagChange, Unset}

abbrev pub change_view : Change → TagChange
change_view (change.Set key value) = Set key.now value.now
change_view (change.Unset key) = Unset key.now

-- a change of the tag that begins at a place
pub record PlacedChange : Type 0 where
  pub place : ℕ
  pub change : TagChange

abbrev pub patch_view : TagPatch → PlacedChange
patch_view p = record { place = p.start; change = change_view p.change }

abbrev pub change_of : PlacedChange → TagChange
change_of c = c.change
