use Rattle.std.proofs.Common.{◌≡◌, length, ℕ, List, sym, subst, ◌∙◌}
use Rattle.std.proofs.lemmas.Bool.{eqb-true}
use Rattle.tl_patch_edit.specs.Kept.{KeepRawTexts}
use Rattle.tl_patch_edit.specs.Several.{AreEdited}
use Rattle.tl_patch_edit.specs.View.{patches_view}
use Rattle.tl_patch_edit.specs.declared.ask.PlacedPatch.{PlacedPatch}
use Rattle.tl_patch_edit.proofs.Refusals.{no_patches, of_error, some_patches}
use Rattle.tl_patch_edit.proofs.page.TokenizedPage.patch_each.Goals as goal

pub returns-clause-no_start : goal.returns-clause-no_start
returns-clause-no_start c = λ p e. of_error _ _ _ c.with_patches.ensures.error e

pub returns-clause-not_meant : goal.returns-clause-not_meant
returns-clause-not_meant c = λ p e. of_error _ _ _ c.with_patches.ensures.error e

pub returns-clause-past_end : goal.returns-clause-past_end
returns-clause-past_end c = λ p e. of_error _ _ _ c.with_patches.ensures.error e

pub returns-clause-not_written : goal.returns-clause-not_written
returns-clause-not_written c = λ p e. of_error _ _ _ c.with_patches.ensures.error e

pub returns-clause-across : goal.returns-clause-across
returns-clause-across c = λ p e. of_error _ _ _ c.with_patches.ensures.error e

pub returns-clause-misread : goal.returns-clause-misread
returns-clause-misread c = λ p by e. of_error _ _ _ c.with_patches.ensures.error e

pub returns-clause-read_otherwise : goal.returns-clause-read_otherwise
returns-clause-read_otherwise c = λ p e. of_error _ _ _ c.with_patches.ensures.error e

pub returns-then-is_empty-clause-edited : goal.returns-then-is_empty-clause-edited
returns-then-is_empty-clause-edited c =
    let page : List ℕ = c.args.self.page.now in
    let zero : length c.args.patches.now ≡ 0 = eqb-true (length c.args.patches.now) 0 (sym c.is_empty.ensures ∙ c.if-is_empty.true) in
    subst (λ (patches : List PlacedPatch). AreEdited (patches_view patches) page c.in_ok-text.text.items) (sym (no_patches c.args.patches.now zero)) c.in_ok-text.ensures.edited

pub returns-then-is_empty-clause-kept : goal.returns-then-is_empty-clause-kept
returns-then-is_empty-clause-kept c =
    let page : List ℕ = c.args.self.page.now in
    let zero : length c.args.patches.now ≡ 0 = eqb-true (length c.args.patches.now) 0 (sym c.is_empty.ensures ∙ c.if-is_empty.true) in
    subst (λ (patches : List PlacedPatch). KeepRawTexts (patches_view patches) page) (sym (no_patches c.args.patches.now zero)) c.in_ok-text.ensures.kept

pub with_patches-requires : goal.with_patches-requires
with_patches-requires c = some_patches c.args.patches.now (sym c.is_empty.ensures ∙ c.if-is_empty.false)
