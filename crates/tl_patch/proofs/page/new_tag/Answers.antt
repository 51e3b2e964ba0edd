use Rattle.std.proofs.Common.{◌∙◌, ℕ, List, map, sym, subst}
use Rattle.tl_patch.specs.Inner.Steps.{AreTagChanges}
use Rattle.tl_patch.specs.PatchView.{change_of, patch_view}
use Rattle.tl_patch.proofs.Tags.{some_of}
use Rattle.tl_patch.proofs.Written.{made_as}
use Rattle.tl_patch.proofs.page.new_tag.Goals as goal

pub returns-in-Some : goal.returns-in-Some
returns-in-Some c = record {
  made = made_as c.args.patches.now c.args.page.now c.args.token.now c.in-Some.new.items (sym c.is_start_tag.ensures ∙ c.if-not-is_start_tag.false)
      (subst (λ (bs : List ℕ). AreTagChanges (map change_of (map patch_view c.args.patches.now)) bs c.in-Some.new.items) c.token_bytes.ensures
      (some_of _ _ _ c.in-Some.is c.in_ok-new.ensures.changed));
  reason = tt;
}
