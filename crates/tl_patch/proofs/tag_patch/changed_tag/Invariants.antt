use Rattle.std.proofs.Common.{◌≡◌, ℕ, true, List, map, drop}
use Rattle.tl_patch.specs.Inner.Steps.{AreTagChanges}
use Rattle.tl_patch.specs.PatchView.{change_of, patch_view}
use Rattle.tl_patch.specs.StartTags.{is_start_tag}
use Rattle.tl_patch.proofs.tag_patch.changed_tag.Given as goal

abbrev pub invariant-loop-at : goal.invariant-loop-at
invariant-loop-at l = record {
  made : (new : List ℕ) → AreTagChanges (map change_of (map patch_view (drop l.at l.patches))) l.now.items new
      → AreTagChanges (map change_of (map patch_view l.patches)) l.tag new;
  start : is_start_tag l.tag ≡ true → is_start_tag l.now.items ≡ true;
}
